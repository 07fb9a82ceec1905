-- The ground-up losses of a stream of damage distributions, event by event.
use Rattle.std.proofs.Common.{◌≡◌, ℕ, Bool, nat_eq, List, [], ◌∷◌, ◌++◌, length, None, refl, sym, ap, ◌∙◌, flat_map}
use Rattle.std.specs.List.{AllByRecursion, IsDistinct}
use Rattle.kt_ends.specs.Outcome.{Outcome}
use Rattle.kt_ends.specs.declared.status.Status.TheVariants.{Done}
use Rattle.kt_loop.specs.ByRun.{by_run}
use Rattle.kt_loop.specs.Contents.{Contents}
use Rattle.kt_loop.specs.EventRuns.{AcceptsRun, IsEventRun, IsTaken, event_text}
use Rattle.kt_loop.specs.EventStreams.{FitsStream, ReadsBack, bytes_of_events, stream_bytes, stretch_is_read}
use Rattle.kt_loop.specs.EventsGiven.{events_outcome}
use Rattle.kt_loop.specs.ListLaws.{IsStretch, all_by, all_stretch, distinct_stretch}
use Rattle.kt_loop.specs.Outcome.{gives, outcome}
use Rattle.kt_loop.specs.Runs.{cdf_key}
use Rattle.kt_loop.specs.RunsGiven.{outcome_runs}
use Rattle.kt_rec.specs.Rows.{Rows}
use Rattle.kt_stream.specs.Bins.{IsCdf, cdf_form, cdf_shape}
use Rattle.kt_stream.specs.Grammar.{placed_from}
use Rattle.kt_stream.specs.Header.{header_bytes, header_size}
use Rattle.kt_stream.specs.Losses.{loss_bytes, loss_form, loss_shape}
use Rattle.kt_stream.specs.declared.entry.Cdf.{Cdf}
use Rattle.kt_stream.specs.declared.entry.LossRecord.{LossRecord}
use Rattle.kt_stream.specs.declared.entry.Placed.{Placed}
use Rattle.kt_stream.specs.declared.kind.Head.{Head}
use Rattle.kt_stream.specs.declared.kind.StreamKind.TheVariants.{Cdf as CdfKind, Gul}
use Rattle.kt_front.specs.GulOutcome.{gul_head, gul_outcome, gul_runs, run_losses}
use Rattle.kt_front.specs.ModelOutcome.{plain_head}
use Rattle.kt_split.specs.ByEvents.{losses_of_cdfs}

module _ (rows : Rows) (samples : ℕ) (cut : Bool) where
  -- the losses of the distributions of an event
  abbrev made_of : (ℕ → List Cdf) → ℕ → List LossRecord
  made_of of event = losses_of_cdfs rows samples cut (of event)

  -- no distribution is refused
  cdfs_accepted : (before run : List (Placed Cdf)) → AcceptsRun (λ (run : List (Placed Cdf)) (placed : Placed Cdf). None) before run
  cdfs_accepted before [] = tt
  cdfs_accepted before (next ∷ later) = (refl, cdfs_accepted (before ++ next ∷ []) later)

  text_is : (cdfs : List Cdf) → event_text (run_losses rows (samples, cut)) cdfs ≡ flat_map loss_bytes (losses_of_cdfs rows samples cut cdfs)
  text_is [] = refl
  text_is (first ∷ later) = refl

  texts_are : (of : ℕ → List Cdf) (events : List ℕ) → flat_map (λ (event : ℕ). event_text (run_losses rows (samples, cut)) (of event)) events ≡ flat_map (λ (event : ℕ). flat_map loss_bytes (made_of of event)) events
  texts_are of [] = refl
  texts_are of (event ∷ later) = ap (λ (xs : List ℕ). xs ++ flat_map (λ (event : ℕ). event_text (run_losses rows (samples, cut)) (of event)) later) (text_is (of event)) ∙ ap (λ (xs : List ℕ). flat_map loss_bytes (made_of of event) ++ xs) (texts_are of later)

  abbrev gul_of : Contents Head Cdf → Outcome
  gul_of contents = outcome (by_run cdf_key (gul_runs (λ (head : Head). rows))) (record { kept = (samples, cut); run = [] }) contents

  -- of a stretch of the events `gulcalc` makes the stream of the losses of their distributions
  pub gul_makes : (of : ℕ → List Cdf) (events : List ℕ) → ReadsBack Cdf cdf_form (λ shape samples entry. IsCdf shape.bins entry) → IsDistinct nat_eq events
      → FitsStream Cdf cdf_form (λ shape samples entry. IsCdf shape.bins entry) (cdf_shape (length rows.damage_bin_dict)) plain_head of events
      → AllByRecursion (λ (event : ℕ). IsEventRun cdf_key event (of event)) events → (part : List ℕ) → IsStretch part events
      → gul_outcome samples cut rows (stream_bytes cdf_form (cdf_shape (length rows.damage_bin_dict)) plain_head of part) ≡ gives Done (stream_bytes loss_form (loss_shape Gul) (gul_head samples) (made_of of) part)
  gul_makes of events reads distinct fits runs part stretch =
      let entries = placed_from cdf_form (header_size CdfKind) (flat_map of part) in
      let opening = header_bytes Gul (gul_head samples) in
      let taken = all_by (λ (event : ℕ). IsEventRun cdf_key event (of event)) (IsTaken cdf_key (λ (run : List (Placed Cdf)) (placed : Placed Cdf). None) of) (λ event run. record { run = run; accepted = λ placed is. cdfs_accepted [] placed }) part
      (all_stretch (λ (event : ℕ). IsEventRun cdf_key event (of event)) part events stretch runs) in
      ap gul_of (stretch_is_read cdf_form (λ shape samples entry. IsCdf shape.bins entry) (cdf_shape (length rows.damage_bin_dict)) plain_head of events fits part stretch reads)
      ∙ outcome_runs cdf_key (gul_runs (λ (head : Head). rows)) (samples, cut) plain_head entries None
      ∙ events_outcome cdf_key (λ (run : List (Placed Cdf)) (placed : Placed Cdf). None) cdf_form (run_losses rows (samples, cut)) opening of part (header_size CdfKind) (distinct_stretch nat_eq part events stretch distinct) taken
      ∙ ap (λ (text : List ℕ). gives Done (opening ++ text)) (texts_are of part ∙ sym (bytes_of_events loss_form (made_of of) part))

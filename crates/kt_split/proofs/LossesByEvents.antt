-- Tools over streams of losses, event by event.
use Rattle.std.proofs.Common.{◌≡◌, ◌≤◌, ℕ, Bool, true, false, nat_eq, nat_lt, ◌||◌, List, [], ◌∷◌, ◌++◌, ℤ, Option, None, refl, sym, ap, ap₂, ◌∙◌, append_assoc, subst, flat_map, arith, le-ltb}
use Rattle.std.specs.List.{AllByRecursion, IsDistinct, list_any}
use Rattle.std.proofs.lemmas.List.Sums.{sum_by-append}
use Rattle.kt_checks.specs.Checks.{samples_refusal}
use Rattle.kt_ends.specs.Outcome.{Outcome}
use Rattle.kt_ends.specs.declared.status.Refusal.{Refusal}
use Rattle.kt_ends.specs.declared.status.Status.TheVariants.{Done}
use Rattle.kt_keys.specs.declared.need.Refusal.{Refusal as CheckRefusal}
use Rattle.kt_losses.specs.Judged.{LossTable, is_known, judged_behind, judged_opening, judged_outcome, judged_runs, loss_refusal, losses_kind}
use Rattle.kt_loop.specs.ByRun.{outcome_by_run}
use Rattle.kt_loop.specs.Contents.{Contents}
use Rattle.kt_loop.specs.EventRuns.{AcceptsRun, IsTaken, event_text}
use Rattle.kt_loop.specs.EventStreams.{FitsStream, ReadsBack, bytes_of_events, stream_bytes, stretch_is_read}
use Rattle.kt_loop.specs.EventsGiven.{events_outcome}
use Rattle.kt_loop.specs.ListLaws.{IsStretch, all_by, all_stretch, distinct_stretch}
use Rattle.kt_loop.specs.Outcome.{gives}
use Rattle.kt_loop.specs.Runs.{bare, loss_key}
use Rattle.kt_runs.specs.RunLosses.{AreWithin, goes_past, loss_of, run_loss}
use Rattle.kt_stream.specs.Grammar.{placed_from}
use Rattle.kt_stream.specs.Header.{header_bytes, header_size}
use Rattle.kt_stream.specs.Losses.{IsLoss, loss_form, loss_shape}
use Rattle.kt_stream.specs.Stream.{Form}
use Rattle.kt_stream.specs.declared.entry.LossRecord.{LossRecord}
use Rattle.kt_stream.specs.declared.entry.Pair.{Pair}
use Rattle.kt_stream.specs.declared.entry.Placed.{Placed}
use Rattle.kt_stream.specs.declared.kind.Head.{Head}
use Rattle.kt_stream.specs.declared.kind.Shape.{Shape}
use Rattle.kt_tables.specs.Portfolio.{PortfolioRows}
use Rattle.kt_split.specs.ByEvents.{IsLossRun}

-- a calculation with the table alone
abbrev the_table : LossTable → LossTable
the_table one = one

module _ (table : LossTable) (portfolio : PortfolioRows) where
  -- ---- no record of a run of known ids within the limit is refused

  abbrev refusal_behind : List LossRecord → Placed LossRecord → Option Refusal
  refusal_behind before placed = loss_refusal (is_known table.items portfolio.rows placed.entry.id) (goes_past before placed.entry) placed.at

  abbrev refuses : List (Placed LossRecord) → Placed LossRecord → Option Refusal
  refuses run placed = refusal_behind (bare run) placed

  not_past : (before later : List LossRecord) (entry : LossRecord) → AreWithin (before ++ (entry ∷ later)) → goes_past before entry ≡ false
  not_past before later entry within = none entry.pairs
    where
      front : (sidx : ℤ) → run_loss sidx (before ++ entry ∷ []) ≤ 10000000000000000
      front sidx =
          let whole = sum_by-append (λ (one : LossRecord). loss_of sidx one.pairs) (before ++ entry ∷ []) later in
          let same = ap (λ (xs : List LossRecord). run_loss sidx xs) (append_assoc before (entry ∷ []) later) in
          omega (arith, whole, same, within sidx)

      none : (pairs : List Pair) → list_any (λ (pair : Pair). nat_lt 10000000000000000 (run_loss pair.sidx (before ++ entry ∷ []))) pairs ≡ false
      none [] = refl
      none (pair ∷ pairs) = ap₂ (λ (a b : Bool). a || b) (le-ltb 10000000000000000 (run_loss pair.sidx (before ++ entry ∷ [])) (front pair.sidx)) (none pairs)

  bare_more : (run : List (Placed LossRecord)) (placed : Placed LossRecord) → bare (run ++ placed ∷ []) ≡ bare run ++ placed.entry ∷ []
  bare_more [] placed = refl
  bare_more (first ∷ run) placed = ap (λ (later : List LossRecord). first.entry ∷ later) (bare_more run placed)

  accepts_from : (before run : List (Placed LossRecord)) → AreWithin (bare before ++ bare run) → AllByRecursion (λ (entry : LossRecord). is_known table.items portfolio.rows entry.id ≡ true) (bare run) → AcceptsRun refuses before run
  accepts_from before [] within known = tt
  accepts_from before (next ∷ later) within known = (
    ap₂ (λ (a b : Bool). loss_refusal a b next.at) known.0 (not_past (bare before) (bare later) next.entry within),
    accepts_from (before ++ next ∷ []) later
        (subst AreWithin (sym (append_assoc (bare before) (next.entry ∷ []) (bare later)) ∙ ap (λ (xs : List LossRecord). xs ++ bare later) (sym (bare_more before next))) within)
        known.1,
  )

  loss_taken : (of : ℕ → List LossRecord) (event : ℕ) → IsLossRun table.items portfolio.rows event (of event) → IsTaken loss_key refuses of event
  loss_taken of event is = record {
    run = is.run;
    accepted = λ placed same. accepts_from [] placed (subst AreWithin (sym same) is.within) (subst (AllByRecursion (λ (entry : LossRecord). is_known table.items portfolio.rows entry.id ≡ true)) (sym same) is.known);
  }

  -- ---- what is written of the runs

  module _ {E : Type 0} (form : Form E) (shape : Shape) (head_made head : Head) (made : List LossRecord → List E) (none : made [] ≡ []) (heads : table.heading head ≡ header_bytes shape.kind head_made) (texts : (first : LossRecord) (later : List LossRecord) → table.text portfolio head (first ∷ later) ≡ flat_map form.bytes (made (first ∷ later))) where
    text_is : (records : List LossRecord) → event_text (table.text portfolio head) records ≡ flat_map form.bytes (made records)
    text_is [] = ap (flat_map form.bytes) (sym none)
    text_is (first ∷ later) = texts first later

    texts_are : (of : ℕ → List LossRecord) (events : List ℕ) → flat_map (λ (event : ℕ). event_text (table.text portfolio head) (of event)) events ≡ flat_map (λ (event : ℕ). flat_map form.bytes (made (of event))) events
    texts_are of [] = refl
    texts_are of (event ∷ later) = ap₂ (λ (xs ys : List ℕ). xs ++ ys) (text_is (of event)) (texts_are of later)

    abbrev outcome_after : List (Placed LossRecord) → Option CheckRefusal → Outcome
    outcome_after entries found =
        let opening = judged_opening the_table (table, portfolio) head found in
        outcome_by_run loss_key (judged_runs the_table) head opening.text opening.next entries None

    -- of a stretch of the events a tool over losses makes the stream of what it makes of the losses of each
    pub judged_makes : (of : ℕ → List LossRecord) (events : List ℕ) → ReadsBack LossRecord loss_form (λ shape samples entry. IsLoss samples entry) → IsDistinct nat_eq events
        → FitsStream LossRecord loss_form (λ shape samples entry. IsLoss samples entry) (loss_shape (losses_kind table.items)) head of events
        → samples_refusal portfolio.rows portfolio.need head.samples ≡ None
        → AllByRecursion (λ (event : ℕ). IsLossRun table.items portfolio.rows event (of event)) events → (part : List ℕ) → IsStretch part events
        → judged_outcome table portfolio (stream_bytes loss_form (loss_shape (losses_kind table.items)) head of part) ≡ gives Done (stream_bytes form shape head_made (λ (event : ℕ). made (of event)) part)
    judged_makes of events reads distinct fits unrefused runs part stretch =
        let kind = losses_kind table.items in
        let entries = placed_from loss_form (header_size kind) (flat_map of part) in
        let taken = all_by (λ (event : ℕ). IsLossRun table.items portfolio.rows event (of event)) (IsTaken loss_key refuses of) (loss_taken of) part
        (all_stretch (λ (event : ℕ). IsLossRun table.items portfolio.rows event (of event)) part events stretch runs) in
        ap (λ (contents : Contents Head LossRecord). judged_behind table portfolio contents.head contents)
        (stretch_is_read loss_form (λ shape samples entry. IsLoss samples entry) (loss_shape kind) head of events fits part stretch reads)
        ∙ ap (outcome_after entries) unrefused
        ∙ events_outcome loss_key refuses loss_form (table.text portfolio head) (table.heading head) of part (header_size kind) (distinct_stretch nat_eq part events stretch distinct) taken
        ∙ ap₂ (λ (opening text : List ℕ). gives Done (opening ++ text)) heads (texts_are of part ∙ sym (bytes_of_events form (λ (event : ℕ). made (of event)) part))

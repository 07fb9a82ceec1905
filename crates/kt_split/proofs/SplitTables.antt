-- The tables of a joined summary stream are the files of the run of all stages.
use Rattle.std.proofs.Common.{◌≡◌, ◌≤◌, ◌≢◌, ℕ, zero, suc, Bool, true, false, ◌&&◌, ◌||◌, nat_eq, List, [], ◌∷◌, ◌++◌, map, append-nil, refl, sym, ap, ap₂, ◌∙◌, flat_map, arith, eqb-true, if◌then◌else◌}
use Rattle.std.specs.List.{range_with_len}
use Rattle.std.proofs.lemmas.List.Elements.{recursion_from_All}
use Rattle.kt_chain.specs.Events.{RunInput, foot_of, run_input}
use Rattle.kt_chain.specs.SetRecords.{set_records}
use Rattle.kt_chain.specs.Files.{event_text, text_whole}
use Rattle.kt_cell.specs.Losses.{same_perspective}
use Rattle.kt_elt.specs.EventLoss.{elt_heading_text, event_loss_rows}
use Rattle.kt_elt.specs.PeriodLoss.{period_losses, plt_heading_text}
use Rattle.kt_event.specs.Losses.{ground_up_of, insured_of, net_of, set_summaries}
use Rattle.kt_block.specs.Terms.{run_sets, summary_set}
use Rattle.kt_block.specs.declared.terms.SummarySet.{SummarySet}
use Rattle.kt_block.specs.declared.terms.Terms.{Terms}
use Rattle.kt_files.specs.Parts.{records_of_set}
use Rattle.kt_files.specs.declared.file.OutputFile.TheVariants.{OfSet}
use Rattle.kt_files.specs.declared.file.SetTable.TheVariants.{EventLoss, PeriodLoss}
use Rattle.kt_alloc.specs.Insured.{insured_records}
use Rattle.kt_out.specs.NamedFiles.{FileMap}
use Rattle.kt_rec.specs.Rows.{Rows}
use Rattle.kt_rec.specs.declared.perspective.Perspective.{Perspective}
use Rattle.kt_rec.specs.declared.perspective.Perspective.TheVariants.{Gul, Il, Ri}
use Rattle.kt_ri.specs.Reinsurance.{reinsured}
use Rattle.kt_stream.specs.declared.entry.Cdf.{Cdf}
use Rattle.kt_stream.specs.declared.entry.LossRecord.{LossRecord}
use Rattle.kt_stream.specs.declared.entry.SummaryRecord.{SummaryRecord}
use Rattle.kt_sum.specs.Summaries.{run_summaries}
use Rattle.kt_tables.specs.Lookups.{occurrences_of}
use Rattle.kt_fmtree.specs.Programme.{tree_of}
use Rattle.kt_split.proofs.NoLosses.{losses_are}
use Rattle.kt_split.specs.ByEvents.{cdfs_of, losses_of_cdfs}
use Rattle.kt_split.specs.SplitFacts.{ModelFacts}
use Rattle.kt_split.specs.SplitRuns.{footprint_of, has_set, same_set}

-- ---- the records of a set in the block of an event

perspective_is : (one other : Perspective) → same_perspective one other ≡ true → one ≡ other
perspective_is Gul Gul is = refl
perspective_is Gul Il is = cc
perspective_is Gul Ri is = cc
perspective_is Il Gul is = cc
perspective_is Il Il is = refl
perspective_is Il Ri is = cc
perspective_is Ri Gul is = cc
perspective_is Ri Il is = cc
perspective_is Ri Ri is = refl

both : (a b : Bool) → (a && b) ≡ true → (a ≡ true) × (b ≡ true)
both true b is = (refl, is)
both false b is = cc

set_is : (set one : SummarySet) → same_set set one ≡ true → one ≡ set
set_is set one is =
    let parts = both (same_perspective one.perspective set.perspective) (nat_eq one.set set.set) is in
    ap₂ summary_set (perspective_is one.perspective set.perspective parts.0) (eqb-true one.set set.set parts.1)

module _ (terms : Terms) (rows : Rows) (losses : List LossRecord) (set : SummarySet) where
  records_among : (sets : List SummarySet) → has_set set sets ≡ true → records_of_set set (map (set_summaries terms rows losses) sets) ≡ (set_summaries terms rows losses set).records
  records_among [] has = cc
  records_among (one ∷ more) has = by (same_set set one) refl has (records_among more)
    where
      by : (b : Bool) → same_set set one ≡ b → (b || has_set set more) ≡ true → (has_set set more ≡ true → records_of_set set (map (set_summaries terms rows losses) more) ≡ (set_summaries terms rows losses set).records)
          → (if b then (set_summaries terms rows losses one).records else records_of_set set (map (set_summaries terms rows losses) more)) ≡ (set_summaries terms rows losses set).records
      by true is has on = ap (λ (other : SummarySet). (set_summaries terms rows losses other).records) (set_is set one is)
      by false is has on = on has

-- by rules 1 and 2 the summaries of outputs are the same, and by both perspectives of outputs
net_rule : (rows : Rows) (rule set : ℕ) (losses : List LossRecord) → rule ≤ 2 → rule ≢ 0 → run_summaries Il rows 2 set losses ≡ run_summaries Ri rows rule set losses
net_rule rows zero set losses few some = absurd (some refl)
net_rule rows (suc zero) set losses few some = refl
net_rule rows (suc (suc zero)) set losses few some = refl
net_rule rows (suc (suc (suc more))) set losses few some = absurd (omega (arith, few))

module _ (terms : Terms) (rows : Rows) (files : FileMap) (model : ModelFacts rows) where
  abbrev run_of : RunInput
  run_of = run_input terms rows files

  abbrev losses_at : ℕ → List LossRecord
  losses_at event = losses_of_cdfs rows terms.samples terms.cut (cdfs_of rows (footprint_of files) event)

  abbrev records_in : SummarySet → ℕ → List SummaryRecord
  records_in set event = set_records (run_input terms rows files) set event

  ground_up_is : (event : ℕ) → losses_at event ≡ ground_up_of terms rows event (foot_of run_of event)
  ground_up_is event =
      losses_are rows terms.samples terms.cut event (cdfs_of rows (footprint_of files) event)
      (recursion_from_All (λ (cdf : Cdf). cdf.event ≡ event) (cdfs_of rows (footprint_of files) event) (model.event event (foot_of run_of event)))

  -- the summaries of a split run are those of the block of the event
  pub gul_same : (set : ℕ) → has_set (summary_set Gul set) (run_sets rows terms.last) ≡ true → (event : ℕ) → run_summaries Gul rows terms.rule set (losses_at event) ≡ records_in (summary_set Gul set) event
  gul_same set has event =
      ap (run_summaries Gul rows terms.rule set) (ground_up_is event) ∙ sym (records_among terms rows (ground_up_of terms rows event (foot_of run_of event)) (summary_set Gul set) (run_sets rows terms.last) has)

  pub insured_same : (set : ℕ) → has_set (summary_set Il set) (run_sets rows terms.last) ≡ true → (event : ℕ)
      → run_summaries Il rows terms.rule set (insured_records (tree_of rows 0) terms.rule terms.samples rows.fm_xref (losses_at event)) ≡ records_in (summary_set Il set) event
  insured_same set has event =
      ap (λ (losses : List LossRecord). run_summaries Il rows terms.rule set (insured_of terms rows losses)) (ground_up_is event)
      ∙ sym (records_among terms rows (ground_up_of terms rows event (foot_of run_of event)) (summary_set Il set) (run_sets rows terms.last) has)

  pub net_same : (set : ℕ) → terms.rule ≤ 2 → terms.rule ≢ 0 → has_set (summary_set Ri set) (run_sets rows terms.last) ≡ true → (event : ℕ)
      → run_summaries Il rows 2 set (reinsured (map (tree_of rows) (range_with_len 1 terms.stages)) terms.samples (insured_records (tree_of rows 0) terms.rule terms.samples rows.fm_xref (losses_at event))) ≡ records_in (summary_set Ri set) event
  net_same set few some has event =
      ap (λ (losses : List LossRecord). run_summaries Il rows 2 set (net_of terms rows (insured_of terms rows losses))) (ground_up_is event)
      ∙ net_rule rows terms.rule set (net_of terms rows (insured_of terms rows (ground_up_of terms rows event (foot_of run_of event)))) few some
      ∙ sym (records_among terms rows (ground_up_of terms rows event (foot_of run_of event)) (summary_set Ri set) (run_sets rows terms.last) has)

  -- ---- the texts of files

  pub elt_text_is : (set : SummarySet) (of : ℕ → List SummaryRecord) → ((event : ℕ) → of event ≡ records_in set event) → (events : List ℕ)
      → elt_heading_text ++ flat_map (λ event. flat_map (event_loss_rows terms.samples) (of event)) events ≡ text_whole run_of events (OfSet set EventLoss)
  elt_text_is set of same events = ap (λ (text : List ℕ). elt_heading_text ++ text) (each events) ∙ sym (append-nil (elt_heading_text ++ flat_map (event_text run_of (OfSet set EventLoss)) events))
    where
      each : (some : List ℕ) → flat_map (λ event. flat_map (event_loss_rows terms.samples) (of event)) some ≡ flat_map (event_text run_of (OfSet set EventLoss)) some
      each [] = refl
      each (event ∷ later) = ap₂ (λ (xs ys : List ℕ). xs ++ ys) (ap (flat_map (event_loss_rows terms.samples)) (same event)) (each later)

  pub plt_text_is : (set : SummarySet) (of : ℕ → List SummaryRecord) → ((event : ℕ) → of event ≡ records_in set event) → (events : List ℕ)
      → plt_heading_text ++ flat_map (λ event. flat_map (λ (entry : SummaryRecord). period_losses terms.samples entry (occurrences_of rows entry.event)) (of event)) events ≡ text_whole run_of events (OfSet set PeriodLoss)
  plt_text_is set of same events = ap (λ (text : List ℕ). plt_heading_text ++ text) (each events) ∙ sym (append-nil (plt_heading_text ++ flat_map (event_text run_of (OfSet set PeriodLoss)) events))
    where
      each : (some : List ℕ) → flat_map (λ event. flat_map (λ (entry : SummaryRecord). period_losses terms.samples entry (occurrences_of rows entry.event)) (of event)) some ≡ flat_map (event_text run_of (OfSet set PeriodLoss)) some
      each [] = refl
      each (event ∷ later) = ap₂ (λ (xs ys : List ℕ). xs ++ ys) (ap (flat_map (λ (entry : SummaryRecord). period_losses terms.samples entry (occurrences_of rows entry.event))) (same event)) (each later)

use Rattle.std.proofs.Common.{◌∙◌, ◌≤◌, ◌++◌, All, ℕ, List, ap, sym, subst}
use Rattle.kt_periods.specs.Fitting.{fits_periods}
use Rattle.kt_rec.specs.declared.periods.Occurrence.{Occurrence}
use Rattle.kt_fold.specs.Added.{summaries_added}
use Rattle.kt_fold.specs.Folds.{StopsAdding, fold_refusal}
use Rattle.kt_fold.proofs.ListLemmas.{same_place}
use Rattle.kt_fold.proofs.FoldLemmas.{entry_added, entry_stops, front_added, refusal_same}
use Rattle.kt_fold.proofs.adding.add_summaries.Goals as goal

pub add-requires-clause-periods : goal.add-requires-clause-periods
add-requires-clause-periods c =
    subst (λ (most : ℕ). All (λ (row : Occurrence). (1 ≤ row.period_no) × (row.period_no ≤ most)) c.occurrences-occurrences.result.now) (sym (c.loop-entry.invariant.periods ∙ c.requires.same))
    (subst (λ (found : List Occurrence). All (λ (row : Occurrence). (1 ≤ row.period_no) × (row.period_no ≤ c.args.portfolio.now.rows.periods)) found) (sym c.occurrences-occurrences.ensures.value) (fits_periods c.args.portfolio.now.rows c.requires.periods c.entry-item.result.event))

pub returns-in-Err-clause-added : goal.returns-in-Err-clause-added
returns-in-Err-clause-added c = λ history stands.
    let before = c.loop-entry.invariant.added history stands in
    subst (StopsAdding history (summaries_added c.args.portfolio.now.rows c.args.summaries.now)) (sym (ap fold_refusal c.stop_of_cells.ensures ∙ refusal_same c.entry-item.result.event c.in-Err.stop))
    (entry_stops c.args.portfolio.now.rows c.args.summaries.now c.loop-entry.entry-index c.entry-item.result c.occurrences-occurrences.result.now (same_place c.as_slice-entry-items.result.now c.args.summaries.now.records c.loop-entry.entry-index c.entry-item.result c.as_slice-entry-items.ensures.value c.loop-entry-test.true c.entry-item.is).0 (same_place c.as_slice-entry-items.result.now c.args.summaries.now.records c.loop-entry.entry-index c.entry-item.result c.as_slice-entry-items.ensures.value c.loop-entry-test.true c.entry-item.is).1 c.occurrences-occurrences.ensures.value history c.loop-entry.cells c.add.new.self c.in-Err.stop before (c.in-Err.ensures.added (history ++ front_added c.args.portfolio.now.rows c.args.summaries.now c.loop-entry.entry-index) before.stands))

pub loop-entry-preserved : goal.loop-entry-preserved
loop-entry-preserved c = record {
  added = λ history stands.
      let before = c.loop-entry.invariant.added history stands in
      entry_added c.args.portfolio.now.rows c.args.summaries.now c.loop-entry.entry-index c.entry-item.result c.occurrences-occurrences.result.now (same_place c.as_slice-entry-items.result.now c.args.summaries.now.records c.loop-entry.entry-index c.entry-item.result c.as_slice-entry-items.ensures.value c.loop-entry-test.true c.entry-item.is).0 (same_place c.as_slice-entry-items.result.now c.args.summaries.now.records c.loop-entry.entry-index c.entry-item.result c.as_slice-entry-items.ensures.value c.loop-entry-test.true c.entry-item.is).1 c.occurrences-occurrences.ensures.value history c.loop-entry.cells c.add.new.self before (c.in_default.ensures.added (history ++ front_added c.args.portfolio.now.rows c.args.summaries.now c.loop-entry.entry-index) before.stands);
  periods = c.in_default.ensures.size.0 ∙ c.loop-entry.invariant.periods;
  samples = c.in_default.ensures.size.1 ∙ c.loop-entry.invariant.samples;
}

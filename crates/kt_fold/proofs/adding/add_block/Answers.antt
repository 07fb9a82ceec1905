use Rattle.std.proofs.Common.{◌∙◌, ◌++◌, take}
use Rattle.std.specs.List.{flat_map}
use Rattle.kt_fold.specs.Added.{summaries_added}
use Rattle.kt_fold.specs.Folds.{fold_refusal}
use Rattle.kt_fold.proofs.ListLemmas.{same_place}
use Rattle.kt_fold.proofs.FoldLemmas.{each_added, each_stops}
use Rattle.kt_fold.proofs.adding.add_block.Goals as goal

pub returns-in-Err-clause-added : goal.returns-in-Err-clause-added
returns-in-Err-clause-added c = λ history stands.
    let before = c.loop-summaries.invariant.added history stands in
    each_stops (summaries_added c.args.portfolio.now.rows) c.args.block.now.summaries c.loop-summaries.summaries-index c.summaries-item.result (same_place c.as_slice-summaries-items.result.now c.args.block.now.summaries c.loop-summaries.summaries-index c.summaries-item.result c.as_slice-summaries-items.ensures.value c.loop-summaries-test.true c.summaries-item.is).0 (same_place c.as_slice-summaries-items.result.now c.args.block.now.summaries c.loop-summaries.summaries-index c.summaries-item.result c.as_slice-summaries-items.ensures.value c.loop-summaries-test.true c.summaries-item.is).1 history c.loop-summaries.cells (fold_refusal c.in-Err.stop) before (c.in-Err.ensures.added (history ++ flat_map (summaries_added c.args.portfolio.now.rows) (take c.loop-summaries.summaries-index c.args.block.now.summaries)) before.stands)

pub loop-summaries-preserved : goal.loop-summaries-preserved
loop-summaries-preserved c = record {
  added = λ history stands.
      let before = c.loop-summaries.invariant.added history stands in
      each_added (summaries_added c.args.portfolio.now.rows) c.args.block.now.summaries c.loop-summaries.summaries-index c.summaries-item.result (same_place c.as_slice-summaries-items.result.now c.args.block.now.summaries c.loop-summaries.summaries-index c.summaries-item.result c.as_slice-summaries-items.ensures.value c.loop-summaries-test.true c.summaries-item.is).0 (same_place c.as_slice-summaries-items.result.now c.args.block.now.summaries c.loop-summaries.summaries-index c.summaries-item.result c.as_slice-summaries-items.ensures.value c.loop-summaries-test.true c.summaries-item.is).1 history c.loop-summaries.cells c.add_summaries.new.cells before (c.in_default.ensures.added (history ++ flat_map (summaries_added c.args.portfolio.now.rows) (take c.loop-summaries.summaries-index c.args.block.now.summaries)) before.stands);
  periods = c.in_default.ensures.size.0 ∙ c.loop-summaries.invariant.periods;
  samples = c.in_default.ensures.size.1 ∙ c.loop-summaries.invariant.samples;
}

-- The rows of one type of a full curve.
use Rattle.std.proofs.Common.{ℕ, List, map, ◌∙◌}
use Rattle.kt_period_cells.specs.SummaryRows.{group_entries}
use Rattle.kt_cell.specs.Sets.{of_kind}
use Rattle.kt_cell.specs.Amounts.{amount_at, amounts_of}
use Rattle.kt_curve.specs.Grid.{keys_for, sidx_of_kind}
use Rattle.kt_period_cells.specs.Outcomes.{on_more}
use Rattle.kt_curve.proofs.Curves.{ranks_of_kind, ranks_of_equal, rows_of_count}
use Rattle.kt_curve.proofs.kinds.append_kind.Goals as goal

pub returns : goal.returns
returns c = record {
  ok = let whole : List ℕ = map (amount_at c.args.group.now.maxima (group_entries c.args.group.now)) (keys_for c.args.group.now.perspective c.args.group.now.set c.args.group.now.summary (sidx_of_kind c.args.mean c.args.group.now.samples) c.args.group.now.periods) in
      let ranks = ranks_of_kind c.args.group.now.perspective c.args.group.now.set c.args.group.now.periods c.args.group.now.samples c.args.group.now.summary (group_entries c.args.group.now) c.args.group.now.maxima c.args.mean c.requires.group.cells in
      let taken = ranks_of_equal c.as_mut_slice.result.now (amounts_of c.args.group.now.maxima (of_kind c.args.mean) (group_entries c.args.group.now)) whole (c.as_mut_slice.ensures.value ∙ c.in_ok-values.ensures) ranks in
      on_more c.append_values.result (λ rows. rows_of_count _ _ _ _ _ _ whole _ (rows whole taken) c.count_of-count.ensures) c.append_values.ensures.ok;
}

-- One amount more.
use Rattle.std.proofs.Common.{Some, ap, arith, cond, get_or, ◌∙◌}
use Rattle.kt_cell.specs.declared.cell.Cell.{Cell}
use Rattle.kt_cell.specs.Amounts.{amount_in}
use Rattle.kt_ranks.proofs.RowAmounts.{placed_summed}
use Rattle.kt_ranks.proofs.row_amounts.placed_sum.Goals as goal

-- no cell
abbrev none : Cell
none = record { total = 0; maximum = 0 }

pub loop-cell-preserved : goal.loop-cell-preserved
loop-cell-preserved c = record {
  total = placed_summed c.args.maxima c.args.samples.now c.loop-cell.cell-index none c.loop-cell.total c.from-total.result c.loop-cell-test.true c.loop-cell.invariant.total (c.from-total.ensures ∙ c.amount_if.ensures ∙ ap (λ b. cond b (amount_in c.args.maxima (Some (get_or c.args.samples.now c.loop-cell.cell-index none))) 0) c.has_total.ensures.value);
  bound = omega (arith, c.loop-cell.invariant.bound, c.from-total.ensures, c.amount_if.type_inv);
}

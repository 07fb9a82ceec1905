-- One amount more.
use Rattle.std.proofs.Common.{◌∙◌, arith}
use Rattle.kt_ranks.proofs.RowAmounts.{listed_summed}
use Rattle.kt_ranks.proofs.row_amounts.listed_sum.Goals as goal

pub loop-one-preserved : goal.loop-one-preserved
loop-one-preserved c = record {
  total = listed_summed c.args.maxima c.args.cells.now c.loop-one.one-index (0, record { total = 0; maximum = 0 }) c.loop-one.total c.from-total.result c.loop-one-test.true c.loop-one.invariant.total (c.from-total.ensures ∙ c.amount_if.ensures);
  bound = omega (arith, c.loop-one.invariant.bound, c.from-total.ensures, c.amount_if.type_inv);
}

-- The samples of one row, added to the sum of its period.
use Rattle.std.proofs.Common.{◌-◌, arith}
use Rattle.kt_cell.specs.Amounts.{of_period}
use Rattle.kt_ranks.proofs.RowAmounts.{no_sum, row_period, period_here, period_added}
use Rattle.kt_ranks.proofs.amounts.add_period.Goals as goal

pub returns-then-place-rows-clause-sums : goal.returns-then-place-rows-clause-sums
returns-then-place-rows-clause-sums c = λ period. no_sum c.args.maxima (of_period _) c.args.rows.now c.args.place.now.row _ (omega (arith, c.if-place-rows.true))

pub overflow_add-sums : goal.overflow_add-sums
overflow_add-sums c =
    let row = c.index-rows-place.result in
    let period = row_period _ c.args.rows.now c.args.place.now.row row c.requires.periods (omega (arith, c.if-place-rows.false)) c.index-rows-place.is in
    let here = period_here c.args.maxima c.args.rows.now c.args.place.now.row row c.samples_sum.result (omega (arith, c.if-place-rows.false)) c.index-rows-place.is period.0 c.samples_sum.ensures.value in
    rw c.period.ensures.value (omega (arith, here, c.requires.room (row.key.period - 1)))

pub returns-clause-sums : goal.returns-clause-sums
returns-clause-sums c = λ t.
    let row = c.index-rows-place.result in
    let period = row_period _ c.args.rows.now c.args.place.now.row row c.requires.periods (omega (arith, c.if-place-rows.false)) c.index-rows-place.is in
    rw c.period.ensures.value
    (period_added c.args.maxima c.args.rows.now c.args.place.now.row row c.args.sums.now c.samples_sum.result (omega (arith, c.if-place-rows.false)) c.index-rows-place.is period.0 period.1 c.samples_sum.ensures.value t)

use Rattle.std.proofs.Common.{◌≡◌, ◌-◌, ◌∙◌, length, slice_index, ap, arith}
use Rattle.std.specs.List.{range_with_len, sum_by}
use Rattle.kt_levels.proofs.TableLemmas.{summed-fits, summed-more}
use Rattle.kt_levels.proofs.table.sum_of.Goals as goal

pub overflow_add-sum : goal.overflow_add-sum
overflow_add-sum c =
    record { fits = summed-fits (slice_index c.args.lane.now) c.loop-row.row c.loop-row.sum c.loop-row.auto.row c.loop-row.invariant (omega (arith, c.loop-row-test.true, c.requires.most)) (λ k below. c.requires.few k (omega (arith, below, c.loop-row-test.true))) }

pub loop-row-preserved : goal.loop-row-preserved
loop-row-preserved c = summed-more (slice_index c.args.lane.now) c.loop-row.row c.loop-row.sum c.loop-row.auto.row c.loop-row.invariant

pub returns : goal.returns
returns c =
    let end : c.loop-row.row ≡ length c.args.lane.now = omega (arith, c.loop-row-test.false, c.loop-row.auto.row-end c.requires.some) in
    record { value = c.loop-row.invariant ∙ ap (λ n. sum_by (slice_index c.args.lane.now) (range_with_len 1 (n - 1))) end }

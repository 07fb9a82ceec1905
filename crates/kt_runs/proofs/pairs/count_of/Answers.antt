use Rattle.std.proofs.Common.{slice_index, arith}
use Rattle.kt_runs.proofs.PairLemmas.{count-few, counted, not-counted}
use Rattle.kt_runs.proofs.pairs.count_of.Goals as goal
use Rattle.kt_runs.proofs.pairs.count_of.Goals.{then-lane-row-gt0, else-lane-row-gt0}

pub overflow_add-count : goal.overflow_add-count
overflow_add-count c = record { fits = omega (arith, c.loop-row.invariant, count-few (slice_index c.args.lane.now) c.loop-row.row, c.loop-row-test.true, c.requires) }

pub loop-row-preserved : goal.loop-row-preserved
loop-row-preserved c = elim c.if-lane-row-gt0.branch [
  | then-lane-row-gt0 w ↦ rw (w.count-is) (counted (slice_index c.args.lane.now) c.loop-row.row c.loop-row.count c.loop-row.invariant w.if-lane-row-gt0.true)
  | else-lane-row-gt0 w ↦ rw (w.count-is) (not-counted (slice_index c.args.lane.now) c.loop-row.row c.loop-row.count c.loop-row.invariant w.if-lane-row-gt0.false)
]

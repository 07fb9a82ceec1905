use Rattle.std.proofs.Common.{slice_index, length}
use Rattle.kt_runs.proofs.PairLemmas.{some-pair, still-none}
use Rattle.kt_runs.proofs.loss_lanes.has_loss.Goals as goal

pub returns-then-lane-row-gt0-clause-some : goal.returns-then-lane-row-gt0-clause-some
returns-then-lane-row-gt0-clause-some c = λ is. some-pair (slice_index c.args.lane.now) (length c.args.lane.now) c.loop-row.row c.loop-row-test.true c.if-lane-row-gt0.true

pub loop-row-preserved : goal.loop-row-preserved
loop-row-preserved c = still-none (slice_index c.args.lane.now) c.loop-row.row c.loop-row.invariant c.if-lane-row-gt0.false

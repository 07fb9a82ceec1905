use Rattle.std.proofs.Common.{◌+◌, ◌*◌, length}
use Rattle.kt_lanes.specs.Lanes.{IsLane}
use Rattle.kt_lanes.specs.LaneLaws.{sum_at}
use Rattle.kt_lanes.proofs.sums.sum_lanes.Given as goal

abbrev pub invariant-loop-done : goal.invariant-loop-done
invariant-loop-done l = IsLane (length l.fn.sums) (sum_at l.lanes l.start (l.few + 4 * l.done)) l.sums

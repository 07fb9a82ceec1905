-- The deviation, the losses of the mean and of the samples so far are added, where those of all fit.
use Rattle.std.proofs.Common.{◌+◌, ◌<◌, ◌^◌, ℕ, length, slice_index}
use Rattle.kt_lanes.specs.LaneLaws.{IsWritten}
use Rattle.kt_sum.proofs.LaneSumsLemmas.{with_lane}
use Rattle.kt_sum.proofs.lane_sums.add_lane.Given as goal

abbrev pub invariant-loop-row : goal.invariant-loop-row
invariant-loop-row l = ((k : ℕ) → k < length l.fn.sums → with_lane l.fn.sums l.deviation l.lane k < 2 ^ 64) → IsWritten (length l.fn.sums) (l.row + 2) (with_lane l.fn.sums l.deviation l.lane) (slice_index l.fn.sums) l.sums

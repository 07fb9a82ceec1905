use Rattle.std.proofs.Common.{◌-◌, length, slice_index}
use Rattle.kt_lanes.specs.LaneLaws.{IsWritten}
use Rattle.kt_lanes.proofs.lanes.take_from.Given as goal

abbrev pub invariant-loop-k : goal.invariant-loop-k
invariant-loop-k l = IsWritten (length l.fn.lane) l.k (λ j. slice_index l.fn.lane j - slice_index l.less j) (slice_index l.fn.lane) l.lane

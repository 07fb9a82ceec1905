use Rattle.std.proofs.Common.{◌+◌, length, slice_index}
use Rattle.kt_lanes.specs.LaneLaws.{IsWritten}
use Rattle.kt_lanes.proofs.sums.add_four.Given as goal

abbrev pub invariant-loop-k : goal.invariant-loop-k
invariant-loop-k l = IsWritten (length l.fn.sums) l.k (λ j. slice_index l.fn.sums j + (slice_index l.first j + slice_index l.second j + slice_index l.third j + slice_index l.fourth j)) (slice_index l.fn.sums) l.sums

use Rattle.std.proofs.Common.{length, slice_index}
use Rattle.kt_lanes.specs.LaneLaws.{IsWritten}
use Rattle.kt_lanes.specs.Shares.{less_wrapped}
use Rattle.kt_lanes.proofs.parts.take_back.Given as goal

abbrev pub invariant-loop-k : goal.invariant-loop-k
invariant-loop-k l = IsWritten (length l.fn.paid) l.k (λ j. less_wrapped (slice_index l.due j) (slice_index l.fn.paid j)) (slice_index l.fn.paid) l.paid

use Rattle.std.proofs.Common.{◌-◌, length, slice_index}
use Rattle.kt_lanes.specs.LaneLaws.{IsWritten}
use Rattle.kt_lanes.proofs.shares.take_paid.Given as goal

abbrev pub invariant-loop-k : goal.invariant-loop-k
invariant-loop-k l = IsWritten (length l.fn.paid) l.k (λ j. slice_index l.totals j - slice_index l.fn.paid j) (slice_index l.fn.paid) l.paid

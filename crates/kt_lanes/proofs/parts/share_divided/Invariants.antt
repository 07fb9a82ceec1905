use Rattle.std.proofs.Common.{◌-◌, length, slice_index}
use Rattle.kt_money.specs.Sharing.{share_to}
use Rattle.kt_lanes.specs.LaneLaws.{IsWritten}
use Rattle.kt_lanes.proofs.parts.share_divided.Given as goal

abbrev pub invariant-loop-k : goal.invariant-loop-k
invariant-loop-k l = record {
  due : IsWritten (length l.totals) l.k (λ j. share_to (slice_index l.totals j) (slice_index l.weights j) (slice_index l.upto j)) (slice_index l.fn.due) l.due;
  share : IsWritten (length l.totals) l.k (λ j. share_to (slice_index l.totals j) (slice_index l.weights j) (slice_index l.upto j) - slice_index l.fn.paid j) (slice_index l.fn.paid) l.paid;
}

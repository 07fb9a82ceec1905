-- Where no high bit is set so far, all guesses so far are the parts of the totals.
use Rattle.std.proofs.Common.{◌≡◌, ℕ, ◌+◌, ◌<◌, ◌^◌, length, slice_index}
use Rattle.kt_money.specs.Sharing.{share_to}
use Rattle.kt_lanes.specs.LaneLaws.{IsWritten}
use Rattle.kt_lanes.specs.Shares.{less_wrapped}
use Rattle.kt_lanes.proofs.parts.share_likely.Given as goal

abbrev pub invariant-loop-k : goal.invariant-loop-k
invariant-loop-k l = record {
  upto : IsWritten (length l.totals) l.k (λ j. slice_index l.fn.upto j + slice_index l.lane j) (slice_index l.fn.upto) l.upto;
  share : IsWritten (length l.totals) l.k (λ j. less_wrapped (slice_index l.due j) (slice_index l.fn.paid j)) (slice_index l.fn.paid) l.paid;
  right : l.wrong < 2 ^ 32 → (j : ℕ) → j < l.k → slice_index l.due j ≡ share_to (slice_index l.totals j) (slice_index l.weights j) (slice_index l.fn.upto j + slice_index l.lane j);
}

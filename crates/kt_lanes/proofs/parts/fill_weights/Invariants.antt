-- Where no high bit is set so far, all weights so far have 32 bits.
use Rattle.std.proofs.Common.{ℕ, ◌<◌, ◌^◌, length, slice_index}
use Rattle.kt_lanes.specs.LaneLaws.{IsWritten}
use Rattle.kt_lanes.specs.Shares.{weight_or_one}
use Rattle.kt_lanes.proofs.parts.fill_weights.Given as goal

abbrev pub invariant-loop-k : goal.invariant-loop-k
invariant-loop-k l = record {
  weights : IsWritten (length l.fn.weights) l.k (λ j. weight_or_one (slice_index l.fn.weights j)) (slice_index l.fn.weights) l.weights;
  narrow : l.bits < 2 ^ 32 → (j : ℕ) → j < l.k → weight_or_one (slice_index l.fn.weights j) < 2 ^ 32;
}

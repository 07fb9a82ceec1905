-- The sums so far are added, where those of all fit.
use Rattle.std.proofs.Common.{◌+◌, ◌<◌, ◌^◌, ℕ, length, slice_index}
use Rattle.kt_lanes.specs.LaneLaws.{IsWritten}
use Rattle.kt_sum.proofs.totals.add_sums.Given as goal

abbrev pub invariant-loop-place : goal.invariant-loop-place
invariant-loop-place l = ((k : ℕ) → k < length l.fn.total → slice_index l.fn.total k + slice_index l.sums k < 2 ^ 64) → IsWritten (length l.fn.total) l.place (λ k. slice_index l.fn.total k + slice_index l.sums k) (slice_index l.fn.total) l.total

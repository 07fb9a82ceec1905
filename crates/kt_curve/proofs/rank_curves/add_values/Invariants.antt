-- The first values are added.
use Rattle.std.proofs.Common.{◌≡◌, ◌+◌, ◌<◌, ◌≤◌, ℕ, length, slice_index}
use Rattle.kt_curve.proofs.rank_curves.add_values.Given as goal

abbrev pub invariant-loop-place : goal.invariant-loop-place
invariant-loop-place l = record {
  len : length l.sums ≡ length l.fn.sums;
  done : (place : ℕ) → place < l.place → slice_index l.sums place ≡ slice_index l.fn.sums place + slice_index l.values place;
  left : (place : ℕ) → l.place ≤ place → slice_index l.sums place ≡ slice_index l.fn.sums place;
}

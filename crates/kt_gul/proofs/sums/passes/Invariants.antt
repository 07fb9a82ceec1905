-- The sums so far are not above the highest.
use Rattle.std.proofs.Common.{ℕ, ◌<◌, ◌≤◌, slice_index}
use Rattle.kt_gul.proofs.sums.passes.Given as goal

abbrev pub invariant-loop-sum : goal.invariant-loop-sum
invariant-loop-sum l = (place : ℕ) → place < l.sum-index → slice_index l.sums place ≤ l.highest

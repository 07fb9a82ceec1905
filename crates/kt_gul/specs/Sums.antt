-- How far losses were added to sums, place by place.
-- The rule: docs/CALCULATION.md, "Coverage cut".
use Rattle.std.specs.Prelude.{◌≡◌, ℕ, ◌+◌, ◌<◌, ◌≤◌, List, slice_index}

-- below a place the losses are added, and from it on they are not
pub record IsAdding (sums losses now : List ℕ) (upto : ℕ) : Type 0 where
  pub added : (k : ℕ) → k < upto → slice_index now k ≡ slice_index sums k + slice_index losses k
  pub left : (k : ℕ) → upto ≤ k → slice_index now k ≡ slice_index sums k

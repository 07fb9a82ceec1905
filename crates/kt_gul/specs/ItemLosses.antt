-- What the losses of an item by a distribution stand on.
-- The rules: docs/CALCULATION.md, "Sampled loss", "Mean and deviation of an item".
use Rattle.std.specs.Prelude.{◌≡◌, ℕ, ◌+◌, ◌<◌, ◌≤◌, List, ◌++◌, map}
use Rattle.std.specs.List.{range_with_len}

-- behind so many samples the losses are those at the places so far, behind some first ones, and the next random number has this place
pub record AreMade (first : List ℕ) (loss place_of : ℕ → ℕ) (numbers made : ℕ) (losses : List ℕ) (place : ℕ) : Type 0 where
  pub losses_are : losses ≡ first ++ map loss (range_with_len 0 (made + 2))
  pub place_is : place ≡ place_of (made + 1)
  pub within : place < numbers
  pub most : (k : ℕ) → k < made + 2 → loss k ≤ 100200100000000

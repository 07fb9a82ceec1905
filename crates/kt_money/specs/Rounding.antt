-- Rounding to whole cents: quotients to the nearest whole, whole roots, means and deviations.
-- The rules: docs/CALCULATION.md, "Rounding", "Mean and deviation".
use Rattle.std.specs.Prelude.{ℕ, zero, suc, ◌+◌, ◌-◌, ◌*◌, ◌/◌, ◌<◌, ◌≤◌, ◌≡◌, nat_le, if◌then◌else◌}

-- a / b to the nearest whole, halves up
abbrev pub half_up : ℕ → ℕ → ℕ
half_up a b = (2 * a + b) / (2 * b)

-- the part of x that f parts per million are, to the nearest whole
abbrev pub ppm_part : ℕ → ℕ → ℕ
ppm_part x f = half_up (x * f) 1000000

-- the greatest d with d * d ≤ x: one more than that of the number before where the next square is reached
unfoldable pub root : ℕ → ℕ
root zero = 0
root (suc x) = let d = root x in (if nat_le ((d + 1) * (d + 1)) (suc x) then d + 1 else d)

-- d is the whole square root of x
pub record IsRoot (x d : ℕ) : Type 0 where
  pub at_most : d * d ≤ x
  pub next_above : x < (d + 1) * (d + 1)

-- the mean of n amounts with this total, to the nearest whole
abbrev pub mean_of : ℕ → ℕ → ℕ
mean_of n total = half_up total n

-- the standard deviation of n amounts with this total and this sum of squares, rounded down; 0 of a single amount
abbrev pub deviation_of : ℕ → ℕ → ℕ → ℕ
deviation_of n total squares =
    if nat_le n 1 then 0 else root ((n * squares - total * total) / (n * (n - 1)))

-- d is the greatest whole number whose square, times n * (n - 1), is at most n * squares - total * total
pub record IsDeviation (n total squares d : ℕ) : Type 0 where
  pub single : n ≤ 1 → d ≡ 0
  pub at_most : 1 < n → d * d * (n * (n - 1)) ≤ n * squares - total * total
  pub next_above : 1 < n → n * squares - total * total < (d + 1) * (d + 1) * (n * (n - 1))

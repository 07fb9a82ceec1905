-- The deviation of amounts with weights.
-- The rule: docs/CALCULATION.md, "Weighted mean and deviation".
use Rattle.std.specs.Prelude.{ℕ, ◌+◌, ◌-◌, ◌*◌, ◌/◌, ◌<◌, ◌≤◌, ◌≡◌, nat_le, if◌then◌else◌}
use Rattle.kt_money.specs.Rounding.{root}

-- the variance of several amounts, rounded down: of how many, the sum of their weights, the sum of weight times amount, and the sum of
-- weight times the amount's square
abbrev pub weighted_variance_of : ℕ → ℕ → ℕ → ℕ → ℕ
weighted_variance_of count weights total squares =
    count * (weights * squares - total * total) / (weights * weights * (count - 1))

-- the standard deviation of such amounts, rounded down; 0 of a single amount
abbrev pub weighted_deviation_of : ℕ → ℕ → ℕ → ℕ → ℕ
weighted_deviation_of count weights total squares =
    if nat_le count 1 then 0 else root (weighted_variance_of count weights total squares)

-- d is the greatest whole number whose square, times weights * weights * (count - 1), is at most count * (weights * squares - total * total)
pub record IsWeightedDeviation (count weights total squares d : ℕ) : Type 0 where
  pub single : count ≤ 1 → d ≡ 0
  pub at_most : 1 < count → d * d * (weights * weights * (count - 1)) ≤ count * (weights * squares - total * total)
  pub next_above : 1 < count → count * (weights * squares - total * total) < (d + 1) * (d + 1) * (weights * weights * (count - 1))

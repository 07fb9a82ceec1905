-- The mean and the deviation of an item's loss, from the means of the bins of its distribution.
-- The rule: docs/CALCULATION.md, "Mean and deviation of an item".
use Rattle.std.specs.Prelude.{ℕ, ◌+◌, ◌-◌, ◌*◌, ◌/◌, ◌^◌, List, [], ◌∷◌, min}
use Rattle.kt_money.specs.Rounding.{half_up, root}
use Rattle.kt_stream.specs.declared.entry.Bin.{Bin}

-- the means of bins behind a probability, each times the bin's own probability, added
abbrev pub means_behind : ℕ → List Bin → ℕ
means_behind before [] = 0
means_behind before (b ∷ bins) = (b.prob_to - before) * b.mean + means_behind b.prob_to bins

-- the squares of the means of bins behind a probability, each times the bin's own probability, added
abbrev pub squares_behind : ℕ → List Bin → ℕ
squares_behind before [] = 0
squares_behind before (b ∷ bins) = (b.prob_to - before) * b.mean * b.mean + squares_behind b.prob_to bins

-- the mean loss of an insured value by a distribution: to the nearest cent, and at most the value
abbrev pub mean_loss : ℕ → List Bin → ℕ
mean_loss tiv bins = min tiv (half_up (tiv * means_behind 0 bins) (10 ^ 18))

-- the deviation of the damage of a distribution in units of 10^-18: the whole root, 0 where the probabilities are too small for one
abbrev pub damage_deviation : List Bin → ℕ
damage_deviation bins = root (squares_behind 0 bins * 10 ^ 12 - means_behind 0 bins * means_behind 0 bins)

-- the standard deviation of the loss of an insured value by a distribution, rounded down
abbrev pub loss_deviation : ℕ → List Bin → ℕ
loss_deviation tiv bins = tiv * damage_deviation bins / 10 ^ 18

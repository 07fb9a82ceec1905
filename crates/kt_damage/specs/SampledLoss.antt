-- The loss of a sample: where its random number falls among the bins of a distribution.
-- The rule: docs/CALCULATION.md, "Sampled loss".
use Rattle.std.specs.Prelude.{ℕ, ◌+◌, ◌-◌, ◌*◌, ◌&&◌, Bool, cond, nat_lt, nat_le, List, ◌∷◌}
use Rattle.kt_money.specs.Rounding.{half_up, ppm_part}
use Rattle.kt_rec.specs.declared.hazard.DamageBin.{DamageBin}
use Rattle.kt_stream.specs.declared.entry.Bin.{Bin}

-- the loss in a bin whose damage goes from `low` to `high` and whose probability goes from `before` to `upto`: the damage at
-- the number, in proportion, times the insured value, rounded once
abbrev pub loss_in_bin : ℕ → ℕ → ℕ → ℕ → ℕ → ℕ → ℕ
loss_in_bin tiv low high before upto number =
    half_up (tiv * (low * (upto - before) + (high - low) * (number - before))) (1000000 * (upto - before))

-- whether a number falls into a bin that begins at a probability: the bin has a probability above 0, and ends at the number or above
abbrev pub falls_into : ℕ → ℕ → Bin → Bool
falls_into number before b = nat_lt before b.prob_to && nat_le number b.prob_to

-- the loss in the first of the bins into which the number falls, where the bin before them ends at the probability `before` and
-- at the damage `high`; where it falls into none, the damage at which the last ends
abbrev pub loss_behind : ℕ → ℕ → ℕ → ℕ → List DamageBin → List Bin → ℕ
loss_behind tiv number before high (d ∷ dictionary) (b ∷ bins) =
    cond (falls_into number before b) (loss_in_bin tiv d.bin_from d.bin_to before b.prob_to number)
    (loss_behind tiv number b.prob_to d.bin_to dictionary bins)
loss_behind tiv number before high dictionary bins = ppm_part tiv high

-- the loss of an insured value by a distribution at a random number, given in units of 10^-12; 0 without bins
abbrev pub sampled_loss : ℕ → List DamageBin → List Bin → ℕ → ℕ
sampled_loss tiv dictionary bins number = loss_behind tiv number 0 0 dictionary bins

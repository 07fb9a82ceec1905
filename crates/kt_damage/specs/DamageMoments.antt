-- The mean and the deviation of a damage in units of 2^-127, ready for insured values.
-- The rule: docs/CALCULATION.md, "Mean and deviation of an item".
use Rattle.std.specs.Prelude.{◌≡◌, ℕ, ◌*◌, ◌/◌, ◌^◌, ◌≤◌, List}
use Rattle.kt_money.specs.Rounding.{half_up}
use Rattle.kt_stream.specs.declared.entry.Bin.{Bin}
use Rattle.kt_damage.specs.declared.moments.DamageMoments.{DamageMoments}
use Rattle.kt_damage.specs.ItemMoments.{means_behind, damage_deviation}
use Rattle.kt_damage.specs.Steps.{line_loss}

-- an insured value's mean loss by the mean of the damage is that by a distribution, and its deviation by that of the damage too
pub record AreMoments (bins : List Bin) (moments : DamageMoments) : Type 0 where
  pub mean_is : (tiv : ℕ) → tiv ≤ 10 ^ 14 → line_loss tiv moments.mean ≡ half_up (tiv * means_behind 0 bins) (10 ^ 18)
  pub deviation_is : (tiv : ℕ) → tiv ≤ 10 ^ 14 → tiv * moments.deviation / 2 ^ 127 ≡ tiv * damage_deviation bins / 10 ^ 18
  pub few : damage_deviation bins ≤ 1002001000000000000

-- The steps of a distribution: the random numbers that fall into one bin, and the losses at them by one line of damages.
-- The rule: docs/CALCULATION.md, "Sampled loss".
use Rattle.std.specs.Prelude.{◌≡◌, ℕ, ◌+◌, ◌*◌, ◌/◌, ◌^◌, ◌<◌, ◌≤◌, List, max, All}
use Rattle.kt_rec.specs.declared.hazard.DamageBin.{DamageBin}
use Rattle.kt_stream.specs.declared.entry.Bin.{Bin}
use Rattle.kt_damage.specs.declared.steps.Step.{Step}
use Rattle.kt_damage.specs.SampledLoss.{loss_in_bin, sampled_loss}

-- the loss of an insured value by a damage in units of 2^-127, to the nearest whole, halves up
abbrev pub line_loss : ℕ → ℕ → ℕ
line_loss tiv damage = (tiv * damage + 2 ^ 126) / 2 ^ 127

-- at each number of a step the loss, by an insured value and a random number in units of 10^-12, is that by its line
pub record IsStep (loss : ℕ → ℕ → ℕ) (step : Step) : Type 0 where
  pub numbers : step.first + step.span < 2 ^ 32
  pub fits : step.least + step.rise * step.span < 2 ^ 128
  pub loss_is : (tiv over : ℕ) → tiv ≤ 10 ^ 14 → over ≤ step.span → loss tiv ((step.first + over) * 1000000) ≡ line_loss tiv (step.least + step.rise * over)

-- a step of a bin whose damage goes from `low` to `high` and whose probability goes from `before` to `upto`
pub record IsBinStep (low high before upto : ℕ) (step : Step) : Type 0 where
  pub is_step : IsStep (λ tiv number. loss_in_bin tiv low high before upto number) step
  pub above : before < max (step.first * 1000000) 1
  pub below : (step.first + step.span) * 1000000 ≤ upto
  pub wide : before < upto

-- the steps of a distribution
abbrev pub AreSteps : List DamageBin → List Bin → List Step → Type 0
AreSteps dictionary bins steps = All (IsStep (λ tiv number. sampled_loss tiv dictionary bins number)) steps

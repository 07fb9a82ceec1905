-- The steps of the rules, and what they make of the four amounts.
-- The rule: docs/FINANCIAL_MODULE.md, "Steps".
use Rattle.std.specs.Prelude.{ℕ, ◌&&◌, Bool, true, List, [], ◌∷◌}
use Rattle.kt_money.specs.Rounding.{ppm_part}
use Rattle.kt_rules.specs.declared.carry.Carry.{Carry}
use Rattle.kt_rules.specs.declared.profile.Profile.{Profile}
use Rattle.kt_rules.specs.declared.steps.Step.{Step}
use Rattle.kt_rules.specs.declared.steps.Step.TheVariants as step
use Rattle.kt_rules.specs.Amounts.{deduct, limited, attached, shared, franchise, reverse_franchise, at_most, at_least, between}
use Rattle.kt_rec.specs.Ranges.{is_deductible_part, is_limit_part}
use Rattle.kt_rules.specs.Rules.{part_of, bounded_part_of}

-- what a step makes of the four amounts, beside the insured value and the loss before the rule's first step
abbrev pub after_step : Step → Profile → ℕ → ℕ → Carry → Carry
after_step step.Nothing terms tiv loss carry = carry
after_step step.Deductible terms tiv loss carry = deduct terms.ded1 carry
after_step step.DeductibleOfTiv terms tiv loss carry = deduct (part_of terms tiv) carry
after_step step.DeductibleOfLoss terms tiv loss carry = deduct (part_of terms loss) carry
after_step step.DeductibleOfLimit terms tiv loss carry = deduct (part_of terms terms.lim1) carry
after_step step.DeductibleOfTivWithin terms tiv loss carry = deduct (bounded_part_of terms tiv) carry
after_step step.DeductibleOfLossWithin terms tiv loss carry = deduct (bounded_part_of terms loss) carry
after_step step.Franchise terms tiv loss carry = franchise terms.ded1 carry
after_step step.ReverseFranchise terms tiv loss carry = reverse_franchise terms.ded1 carry
after_step step.Minimum terms tiv loss carry = at_least terms.ded2 carry
after_step step.Maximum terms tiv loss carry = at_most terms.ded3 carry
after_step step.MinimumOrMaximum terms tiv loss carry = between terms.ded2 terms.ded3 carry
after_step step.Attachment terms tiv loss carry = attached terms.att1 carry
after_step step.Limit terms tiv loss carry = limited terms.lim1 carry
after_step step.LimitOfLoss terms tiv loss carry = limited (ppm_part loss terms.lim1) carry
after_step step.FirstShare terms tiv loss carry = shared terms.share1 carry
after_step step.SecondShare terms tiv loss carry = shared terms.share2 carry
after_step step.ThirdShare terms tiv loss carry = shared terms.share3 carry

-- what steps make of the four amounts, one after the other
abbrev pub after_steps : List Step → Profile → ℕ → ℕ → Carry → Carry
after_steps [] terms tiv loss carry = carry
after_steps (step ∷ steps) terms tiv loss carry = after_steps steps terms tiv loss (after_step step terms tiv loss carry)

-- whether a step may be taken by a rule: what it takes as parts per million is so by the rule
abbrev pub can_step : Step → ℕ → Bool
can_step step.DeductibleOfTiv rule = is_deductible_part rule
can_step step.DeductibleOfLoss rule = is_deductible_part rule
can_step step.DeductibleOfLimit rule = is_deductible_part rule
can_step step.DeductibleOfTivWithin rule = is_deductible_part rule
can_step step.DeductibleOfLossWithin rule = is_deductible_part rule
can_step step.LimitOfLoss rule = is_limit_part rule
can_step _ rule = true

-- whether all steps may be taken by a rule
abbrev pub can_take : List Step → ℕ → Bool
can_take [] rule = true
can_take (step ∷ steps) rule = can_step step rule && can_take steps rule

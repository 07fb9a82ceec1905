-- What steps leave of many losses, each by itself.
-- The rules: docs/FINANCIAL_MODULE.md, "Steps".
use Rattle.std.specs.Prelude.{◌≡◌, ℕ, ◌<◌, ◌≤◌, ◌^◌, ◌&&◌, Bool, true, false, cond, nat_lt, List, [], ◌∷◌, length, slice_index}
use Rattle.std.proofs.Common.{refl, sym, ap, subst, ◌∙◌, arith}
use Rattle.std.proofs.lemmas.Bool.{and_parts, true≢false}
use Rattle.kt_rules.specs.declared.carry.Carry.{Carry}
use Rattle.kt_rules.specs.declared.profile.Profile.{Profile}
use Rattle.kt_rules.specs.declared.steps.Step.{Step}
use Rattle.kt_rules.specs.declared.steps.Step.TheVariants as step
use Rattle.kt_rules.specs.Amounts.{deduct}
use Rattle.kt_rules.specs.LossAlone.{untouched, alone-franchise, alone-reverse_franchise}
use Rattle.kt_rules.specs.Profiles.{IsProfile}
use Rattle.kt_rules.specs.RuleLaws.{ppm_part-le}
use Rattle.kt_rules.specs.Steps.{after_step, after_steps}

-- each of some numbers became what it is made
pub record IsEach (made : ℕ → ℕ) (old now : List ℕ) : Type 0 where
  pub wide : length now ≡ length old
  pub each : (k : ℕ) → k < length old → slice_index now k ≡ made (slice_index old k)

-- whether what a step leaves of a loss depends on that loss alone
abbrev pub is_alone : Step → Bool
is_alone step.Minimum = false
is_alone step.Maximum = false
is_alone step.MinimumOrMaximum = false
is_alone step.DeductibleOfLoss = false
is_alone step.DeductibleOfLossWithin = false
is_alone step.LimitOfLoss = false
is_alone _ = true

-- what a step leaves of a loss of which nothing was taken
abbrev pub step_loss : Step → Profile → ℕ → ℕ → ℕ
step_loss step terms tiv loss = (after_step step terms tiv 0 (untouched loss)).loss

-- such a step leaves of a loss what it leaves where nothing was taken
pub step-alone : (one : Step) → is_alone one ≡ true → (terms : Profile) (tiv before : ℕ) (carry : Carry) → (after_step one terms tiv before carry).loss ≡ step_loss one terms tiv carry.loss
step-alone step.Nothing is terms tiv before carry = refl
step-alone step.Deductible is terms tiv before carry = refl
step-alone step.DeductibleOfTiv is terms tiv before carry = refl
step-alone step.DeductibleOfLoss is terms tiv before carry = absurd (true≢false (sym is))
step-alone step.DeductibleOfLimit is terms tiv before carry = refl
step-alone step.DeductibleOfTivWithin is terms tiv before carry = refl
step-alone step.DeductibleOfLossWithin is terms tiv before carry = absurd (true≢false (sym is))
step-alone step.Franchise is terms tiv before carry = alone-franchise terms.ded1 carry
step-alone step.ReverseFranchise is terms tiv before carry = alone-reverse_franchise terms.ded1 carry
step-alone step.Minimum is terms tiv before carry = absurd (true≢false (sym is))
step-alone step.Maximum is terms tiv before carry = absurd (true≢false (sym is))
step-alone step.MinimumOrMaximum is terms tiv before carry = absurd (true≢false (sym is))
step-alone step.Attachment is terms tiv before carry = refl
step-alone step.Limit is terms tiv before carry = refl
step-alone step.LimitOfLoss is terms tiv before carry = absurd (true≢false (sym is))
step-alone step.FirstShare is terms tiv before carry = refl
step-alone step.SecondShare is terms tiv before carry = refl
step-alone step.ThirdShare is terms tiv before carry = refl

-- what is left is not above the loss
cond-le : (test : Bool) (loss : ℕ) → (cond test (deduct loss (untouched loss)) (untouched loss)).loss ≤ loss
cond-le true loss = omega arith
cond-le false loss = omega arith

pub step-le : (one : Step) → is_alone one ≡ true → (terms : Profile) → IsProfile terms → (tiv loss : ℕ) → step_loss one terms tiv loss ≤ loss
step-le step.Nothing is terms good tiv loss = omega arith
step-le step.Deductible is terms good tiv loss = omega arith
step-le step.DeductibleOfTiv is terms good tiv loss = omega arith
step-le step.DeductibleOfLoss is terms good tiv loss = absurd (true≢false (sym is))
step-le step.DeductibleOfLimit is terms good tiv loss = omega arith
step-le step.DeductibleOfTivWithin is terms good tiv loss = omega arith
step-le step.DeductibleOfLossWithin is terms good tiv loss = absurd (true≢false (sym is))
step-le step.Franchise is terms good tiv loss = cond-le (nat_lt loss terms.ded1) loss
step-le step.ReverseFranchise is terms good tiv loss = cond-le (nat_lt terms.ded1 loss) loss
step-le step.Minimum is terms good tiv loss = absurd (true≢false (sym is))
step-le step.Maximum is terms good tiv loss = absurd (true≢false (sym is))
step-le step.MinimumOrMaximum is terms good tiv loss = absurd (true≢false (sym is))
step-le step.Attachment is terms good tiv loss = omega arith
step-le step.Limit is terms good tiv loss = omega arith
step-le step.LimitOfLoss is terms good tiv loss = absurd (true≢false (sym is))
step-le step.FirstShare is terms good tiv loss = ppm_part-le loss terms.share1 good.share1
step-le step.SecondShare is terms good tiv loss = ppm_part-le loss terms.share2 good.share2
step-le step.ThirdShare is terms good tiv loss = ppm_part-le loss terms.share3 good.share3

-- what steps leave of a loss, one after the other
abbrev pub steps_loss : List Step → Profile → ℕ → ℕ → ℕ
steps_loss [] terms tiv loss = loss
steps_loss (one ∷ steps) terms tiv loss = steps_loss steps terms tiv (step_loss one terms tiv loss)

-- each of some steps is such a step
abbrev pub are_alone : List Step → Bool
are_alone [] = true
are_alone (one ∷ steps) = is_alone one && are_alone steps

-- so such steps leave what they leave one after the other
pub steps-alone : (steps : List Step) → are_alone steps ≡ true → (terms : Profile) (tiv before : ℕ) (carry : Carry) → (after_steps steps terms tiv before carry).loss ≡ steps_loss steps terms tiv carry.loss
steps-alone [] is terms tiv before carry = refl
steps-alone (one ∷ steps) is terms tiv before carry =
    let both = and_parts (is_alone one) (are_alone steps) is in
    steps-alone steps both.1 terms tiv before (after_step one terms tiv before carry)
    ∙ ap (steps_loss steps terms tiv) (step-alone one both.0 terms tiv before carry)

-- how far each number became what it is made
pub record IsEachTo (made : ℕ → ℕ) (old : List ℕ) (k : ℕ) (now : List ℕ) : Type 0 where
  pub wide : length now ≡ length old
  pub done : (j : ℕ) → j < k → slice_index now j ≡ made (slice_index old j)
  pub left : (j : ℕ) → k ≤ j → j < length old → slice_index now j ≡ slice_index old j

-- one thing made of what another made
pub each-then : (f g : ℕ → ℕ) (old between now : List ℕ) → IsEach f old between → IsEach g between now → IsEach (λ n. g (f n)) old now
each-then f g old between now first second = record {
  wide = second.wide ∙ first.wide;
  each = λ k below. second.each k (subst (λ n. k < n) (sym first.wide) below) ∙ ap g (first.each k below);
}

-- what such a step leaves is not too much
pub each-few : (one : Step) → is_alone one ≡ true → (terms : Profile) → IsProfile terms → (tiv : ℕ) (old now : List ℕ) → IsEach (step_loss one terms tiv) old now → ((k : ℕ) → k < length old → slice_index old k ≤ 10 ^ 16) → (k : ℕ) → k < length now → slice_index now k ≤ 10 ^ 16
each-few one is terms good tiv old now made few k below =
    let inside : k < length old = omega (arith, below, made.wide) in
    omega (arith, made.each k inside, step-le one is terms good tiv (slice_index old k), few k inside)

-- Rules that see the loss alone: what they leave of it does not depend on what was taken before.
-- The rules: docs/FINANCIAL_MODULE.md, "Calculation rules".
use Rattle.std.specs.Prelude.{◌≡◌, ℕ, ◌-◌, ◌≤◌, ◌||◌, Bool, true, false, cond, nat_eq, nat_lt, List, [], ◌∷◌}
use Rattle.std.specs.List.{AllByRecursion}
use Rattle.std.proofs.Common.{refl, arith, ap, ◌∙◌}
use Rattle.std.proofs.lemmas.Bool.{true≢false, eqb-true}
use Rattle.kt_rules.specs.declared.carry.Carry.{Carry}
use Rattle.kt_rules.specs.declared.profile.Profile.{Profile}
use Rattle.kt_rules.specs.Amounts.{deduct, franchise, reverse_franchise}
use Rattle.kt_rules.specs.RuleLaws.{AreShares, loss-le-total}
use Rattle.kt_rules.specs.Rules.{Rule, rules, rule_among, rule_of, applied}

-- whether a rule looks at what was taken before: it has a minimum or a maximum deductible of all that was deducted
abbrev pub looks_back : ℕ → Bool
looks_back number = nat_eq number 7 || nat_eq number 8 || nat_eq number 10 || nat_eq number 11 || nat_eq number 13

-- a loss of which nothing was taken
abbrev pub untouched : ℕ → Carry
untouched loss = record { loss = loss; ded = 0; over = 0; kept = 0 }

-- what a profile leaves of a loss of which nothing was taken, beside the insured value
abbrev pub loss_after : Profile → ℕ → ℕ → ℕ
loss_after profile tiv loss = (applied profile tiv (untouched loss)).loss

-- what a rule leaves of a loss is what it leaves where nothing was taken
abbrev SeesLossAlone : Rule → Type 0
SeesLossAlone rule = (terms : Profile) (tiv : ℕ) (carry : Carry) → (rule terms tiv carry).loss ≡ (rule terms tiv (untouched carry.loss)).loss

-- the rules with their numbers
abbrev AreAlone : List (ℕ × Rule) → Type 0
AreAlone entries = AllByRecursion (λ (entry : ℕ × Rule). looks_back entry.0 ≡ false → SeesLossAlone entry.1) entries

-- a choice by a test of the loss
alone-cond : (test : Bool) (carry : Carry) → (cond test (deduct carry.loss carry) carry).loss ≡ (cond test (deduct carry.loss (untouched carry.loss)) (untouched carry.loss)).loss
alone-cond true carry = refl
alone-cond false carry = refl

pub alone-franchise : (amount : ℕ) (carry : Carry) → (franchise amount carry).loss ≡ (franchise amount (untouched carry.loss)).loss
alone-franchise amount carry = alone-cond (nat_lt carry.loss amount) carry

pub alone-reverse_franchise : (amount : ℕ) (carry : Carry) → (reverse_franchise amount carry).loss ≡ (reverse_franchise amount (untouched carry.loss)).loss
alone-reverse_franchise amount carry = alone-cond (nat_lt amount carry.loss) carry

-- each of the table
alone : AreAlone rules
alone = (λ _ p t c. refl, (λ _ p t c. refl, (λ _ p t c. ap (λ n. n - (n - p.lim1)) (alone-franchise p.ded1 c), (λ _ p t c. refl, (λ _ p t c. refl, (λ _ p t c. refl, (λ back. absurd (true≢false back), (λ back. absurd (true≢false back), (λ _ p t c. refl, (λ back. absurd (true≢false back), (λ back. absurd (true≢false back), (λ _ p t c. refl, (λ back. absurd (true≢false back), (λ _ p t c. refl, (λ _ p t c. refl, (λ _ p t c. refl, (λ _ p t c. refl, (λ _ p t c. refl, (λ _ p t c. refl, (λ _ p t c. alone-reverse_franchise p.ded1 c, (λ _ p t c. refl, (λ _ p t c. refl, (λ _ p t c. refl, (λ _ p t c. refl, (λ _ p t c. refl, (λ _ p t c. refl, (λ _ p t c. refl, tt)))))))))))))))))))))))))))

alone_among : (entries : List (ℕ × Rule)) → AreAlone entries → (number : ℕ) → looks_back number ≡ false → SeesLossAlone (rule_among entries number)
alone_among [] all number ahead = λ p t c. refl
alone_among (entry ∷ entries) all number ahead = either (nat_eq entry.0 number) refl (alone_among entries all.1 number ahead)
  where
    either : (test : Bool) → nat_eq entry.0 number ≡ test → SeesLossAlone (rule_among entries number) → SeesLossAlone (cond test entry.1 (rule_among entries number))
    either true same rest = all.0 (ap looks_back (eqb-true entry.0 number same) ∙ ahead)
    either false same rest = rest

-- a profile whose rule does not look back leaves of a loss what it leaves where nothing was taken
pub loss-alone : (profile : Profile) → looks_back profile.rule ≡ false → (tiv : ℕ) (carry : Carry) → (applied profile tiv carry).loss ≡ loss_after profile tiv carry.loss
unfolding rule_of
loss-alone profile ahead tiv carry = alone_among rules alone profile.rule ahead profile tiv carry

-- which is not above the loss
pub loss_after-le : (profile : Profile) → AreShares profile → (tiv loss : ℕ) → loss_after profile tiv loss ≤ loss
loss_after-le profile shares tiv loss = omega (arith, loss-le-total profile tiv (untouched loss) shares)

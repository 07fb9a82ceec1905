-- Laws of the calculation rules: each keeps the sum of the four amounts.
-- The rules: docs/FINANCIAL_MODULE.md, "The four amounts", "Calculation rules".
use Rattle.std.specs.Prelude.{◌≡◌, ℕ, ◌+◌, ◌-◌, ◌≤◌, Bool, true, false, cond, nat_eq, List, [], ◌∷◌}
use Rattle.std.specs.List.{AllByRecursion}
use Rattle.std.proofs.Common.{refl, arith, ◌∙◌}
use Rattle.std.proofs.Math.Nat.{mul-le-mul_left}
use Rattle.kt_money.specs.Rounding.{ppm_part}
use Rattle.kt_rules.specs.declared.carry.Carry.{Carry}
use Rattle.kt_rules.specs.declared.profile.Profile.{Profile}
use Rattle.kt_rules.specs.Amounts.{total, deduct, limited, attached, shared, franchise, reverse_franchise, at_most, at_least, between}
use Rattle.kt_rec.specs.Ranges.{IsTerm, IsFmProfile, is_deductible_part, is_limit_part}
use Rattle.kt_rec.specs.declared.financial.FmProfile.{FmProfile}
use Rattle.kt_rules.specs.Profiles.{IsProfile, most_of, profile_of}
use Rattle.kt_rules.specs.Rules.{Rule, rules, rule_among, rule_of, applied}

-- the shares are at most the whole
pub record AreShares (terms : Profile) : Type 0 where
  pub share1 : terms.share1 ≤ 1000000
  pub share2 : terms.share2 ≤ 1000000
  pub share3 : terms.share3 ≤ 1000000

-- a part of an amount is not above it
pub ppm_part-le : (amount part : ℕ) → part ≤ 1000000 → ppm_part amount part ≤ amount
ppm_part-le amount part few = omega (arith, mul-le-mul_left amount few)

-- each step keeps the sum
pub keeps-deduct : (amount : ℕ) (carry : Carry) → total (deduct amount carry) ≡ total carry
keeps-deduct amount carry = omega arith

pub keeps-limited : (amount : ℕ) (carry : Carry) → total (limited amount carry) ≡ total carry
keeps-limited amount carry = omega arith

pub keeps-attached : (amount : ℕ) (carry : Carry) → total (attached amount carry) ≡ total carry
keeps-attached amount carry = omega arith

pub keeps-shared : (share : ℕ) (carry : Carry) → share ≤ 1000000 → total (shared share carry) ≡ total carry
keeps-shared share carry few = omega (arith, ppm_part-le carry.loss share few)

keeps-cond : (test : Bool) (one other : Carry) (amount : ℕ) → total one ≡ amount → total other ≡ amount → total (cond test one other) ≡ amount
keeps-cond true one other amount keeps keeps_other = keeps
keeps-cond false one other amount keeps keeps_other = keeps_other

pub keeps-franchise : (amount : ℕ) (carry : Carry) → total (franchise amount carry) ≡ total carry
keeps-franchise amount carry = keeps-cond _ _ _ _ (keeps-deduct carry.loss carry) refl

pub keeps-reverse_franchise : (amount : ℕ) (carry : Carry) → total (reverse_franchise amount carry) ≡ total carry
keeps-reverse_franchise amount carry = keeps-cond _ _ _ _ (keeps-deduct carry.loss carry) refl

pub keeps-at_most : (amount : ℕ) (carry : Carry) → total (at_most amount carry) ≡ total carry
keeps-at_most amount carry =
    let surplus = carry.ded - amount in
    let back : total (record carry { loss = carry.loss + surplus; ded = carry.ded - surplus }) ≡ total carry = omega arith in
    let beyond : total (record carry { ded = carry.ded - surplus; over = carry.over + surplus }) ≡ total carry = omega arith in
    keeps-cond _ _ _ _ back beyond

pub keeps-at_least : (amount : ℕ) (carry : Carry) → total (at_least amount carry) ≡ total carry
keeps-at_least amount carry = omega arith

pub keeps-between : (least most : ℕ) (carry : Carry) → total (between least most carry) ≡ total carry
keeps-between least most carry = keeps-cond _ _ _ _ (keeps-at_least least carry) (keeps-at_most most carry)

-- ---- the rules

-- a rule keeps the sum
abbrev pub Keeps : Rule → Type 0
Keeps rule = (terms : Profile) (tiv : ℕ) (carry : Carry) → AreShares terms → total (rule terms tiv carry) ≡ total carry

keep : AllByRecursion (λ (entry : ℕ × Rule). Keeps entry.1) rules
keep = (
  λ p t c s. keeps-limited _ _ ∙ keeps-deduct _ c,
  (
    λ p t c s. keeps-shared _ _ s.share1 ∙ (keeps-limited _ _ ∙ (keeps-attached _ _ ∙ keeps-deduct _ c)),
    (
      λ p t c s. keeps-limited _ _ ∙ keeps-franchise _ c,
      (
        λ p t c s. keeps-limited _ _ ∙ keeps-deduct _ c,
        (
          λ p t c s. keeps-limited _ _ ∙ keeps-deduct _ c,
          (
            λ p t c s. keeps-deduct _ c,
            (
              λ p t c s. keeps-limited _ _ ∙ keeps-at_most _ c,
              (
                λ p t c s. keeps-limited _ _ ∙ keeps-at_least _ c,
                (
                  λ p t c s. keeps-limited _ _ ∙ keeps-deduct _ c,
                  (
                    λ p t c s. keeps-at_most _ c,
                    (
                      λ p t c s. keeps-at_least _ c,
                      (
                        λ p t c s. keeps-deduct _ c,
                        (
                          λ p t c s. keeps-between _ _ c,
                          (
                            λ p t c s. keeps-limited _ c,
                            (
                              λ p t c s. keeps-limited _ c,
                              (
                                λ p t c s. keeps-deduct _ c,
                                (
                                  λ p t c s. keeps-shared _ _ s.share1 ∙ (keeps-limited _ _ ∙ (keeps-attached _ _ ∙ keeps-deduct _ c)),
                                  (
                                    λ p t c s. keeps-shared _ _ s.share1 ∙ (keeps-limited _ _ ∙ (keeps-attached _ _ ∙ keeps-deduct _ c)),
                                    (
                                      λ p t c s. keeps-deduct _ c,
                                      (
                                        λ p t c s. keeps-reverse_franchise _ c,
                                        (
                                          λ p t c s. keeps-deduct _ c,
                                          (
                                            λ p t c s. keeps-shared _ _ s.share3 ∙ (keeps-shared _ _ s.share2 ∙ (keeps-limited _ _ ∙ keeps-shared _ c s.share1)),
                                            (
                                              λ p t c s. keeps-shared _ _ s.share3 ∙ (keeps-shared _ _ s.share2 ∙ keeps-limited _ c),
                                              (
                                                λ p t c s. keeps-shared _ _ s.share3 ∙ (keeps-shared _ _ s.share2 ∙ (keeps-limited _ _ ∙ keeps-attached _ c)),
                                                (
                                                  λ p t c s. keeps-shared _ _ s.share3 ∙ (keeps-shared _ _ s.share2 ∙ keeps-shared _ c s.share1),
                                                  (
                                                    λ p t c s. keeps-limited _ _ ∙ keeps-deduct _ c,
                                                    (
                                                      λ p t c s. refl,
                                                      tt,
                                                    ),
                                                  ),
                                                ),
                                              ),
                                            ),
                                          ),
                                        ),
                                      ),
                                    ),
                                  ),
                                ),
                              ),
                            ),
                          ),
                        ),
                      ),
                    ),
                  ),
                ),
              ),
            ),
          ),
        ),
      ),
    ),
  ),
)

keep_among : (entries : List (ℕ × Rule)) → AllByRecursion (λ (entry : ℕ × Rule). Keeps entry.1) entries → (number : ℕ) → Keeps (rule_among entries number)
keep_among [] all number = λ p t c s. refl
keep_among (entry ∷ entries) all number = either (nat_eq entry.0 number) entry.1 (rule_among entries number) all.0 (keep_among entries all.1 number)
  where
    either : (test : Bool) (one other : Rule) → Keeps one → Keeps other → Keeps (cond test one other)
    either true one other keeps keeps_other = keeps
    either false one other keeps keeps_other = keeps_other

-- each rule keeps the sum
pub keeps-rule_of : (number : ℕ) → Keeps (rule_of number)
unfolding rule_of
keeps-rule_of number = keep_among rules keep number

-- so the loss that is left is not above it
pub loss-le-total : (profile : Profile) (tiv : ℕ) (carry : Carry) → AreShares profile → (applied profile tiv carry).loss ≤ total carry
loss-le-total profile tiv carry shares = omega (arith, keeps-rule_of profile.rule profile tiv carry shares)

-- ---- the terms of rows

-- a term in its range is in that of its rule
within : (is_part : Bool) (term : ℕ) → IsTerm is_part term → term ≤ most_of is_part
within true term is = is
within false term is = omega arith

-- the terms of a row in its ranges are a profile
pub profile_of-is : (row : FmProfile) → IsFmProfile row → IsProfile (profile_of row)
profile_of-is row is =
    record {
      rule = is.calcrule_id;
      ded1 = within (is_deductible_part row.calcrule_id) row.deductible1 is.deductible1;
      ded2 = omega arith;
      ded3 = omega arith;
      att1 = omega arith;
      lim1 = within (is_limit_part row.calcrule_id) row.limit1 is.limit1;
      share1 = is.share1;
      share2 = is.share2;
      share3 = is.share3;
    }

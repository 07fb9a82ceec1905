-- The calculation rules, each in its terms.
-- The rules: docs/FINANCIAL_MODULE.md, "Calculation rules".
use Rattle.std.specs.Prelude.{ℕ, List, [], ◌∷◌, cond, nat_eq}
use Rattle.kt_money.specs.Rounding.{ppm_part}
use Rattle.kt_rules.specs.declared.carry.Carry.{Carry}
use Rattle.kt_rules.specs.declared.profile.Profile.{Profile}
use Rattle.kt_rules.specs.Amounts.{deduct, limited, attached, shared, franchise as below_franchise, reverse_franchise as above_franchise, at_most, at_least, between, within_bounds}

-- what terms make of the four amounts, beside the insured value
abbrev pub Rule : Type 0
Rule = Profile → ℕ → Carry → Carry

-- ---- deductibles as parts

-- the first deductible as a part of an amount
abbrev pub part_of : Profile → ℕ → ℕ
part_of terms amount = ppm_part amount terms.ded1

-- the first deductible as a part of an amount, within the minimum and the maximum
abbrev pub bounded_part_of : Profile → ℕ → ℕ
bounded_part_of terms amount = within_bounds terms.ded2 terms.ded3 (part_of terms amount)

-- ---- the rules

-- 1
abbrev pub deductible_and_limit : Rule
deductible_and_limit terms tiv carry = limited terms.lim1 (deduct terms.ded1 carry)

-- 2
abbrev pub deductible_attachment_limit_and_share : Rule
deductible_attachment_limit_and_share terms tiv carry = shared terms.share1 (limited terms.lim1 (attached terms.att1 (deduct terms.ded1 carry)))

-- 3
abbrev pub franchise_deductible_and_limit : Rule
franchise_deductible_and_limit terms tiv carry = limited terms.lim1 (below_franchise terms.ded1 carry)

-- 4
abbrev pub deductible_of_tiv_and_limit : Rule
deductible_of_tiv_and_limit terms tiv carry = limited terms.lim1 (deduct (part_of terms tiv) carry)

-- 5
abbrev pub deductible_of_loss_and_limit_of_loss : Rule
deductible_of_loss_and_limit_of_loss terms tiv carry = limited (ppm_part carry.loss terms.lim1) (deduct (part_of terms carry.loss) carry)

-- 6
abbrev pub deductible_of_tiv : Rule
deductible_of_tiv terms tiv carry = deduct (part_of terms tiv) carry

-- 7
abbrev pub maximum_deductible_and_limit : Rule
maximum_deductible_and_limit terms tiv carry = limited terms.lim1 (at_most terms.ded3 carry)

-- 8
abbrev pub minimum_deductible_and_limit : Rule
minimum_deductible_and_limit terms tiv carry = limited terms.lim1 (at_least terms.ded2 carry)

-- 9
abbrev pub deductible_of_limit_and_limit : Rule
deductible_of_limit_and_limit terms tiv carry = limited terms.lim1 (deduct (part_of terms terms.lim1) carry)

-- 10
abbrev pub maximum_deductible : Rule
maximum_deductible terms tiv carry = at_most terms.ded3 carry

-- 11
abbrev pub minimum_deductible : Rule
minimum_deductible terms tiv carry = at_least terms.ded2 carry

-- 12
abbrev pub deductible : Rule
deductible terms tiv carry = deduct terms.ded1 carry

-- 13
abbrev pub minimum_or_maximum_deductible : Rule
minimum_or_maximum_deductible terms tiv carry = between terms.ded2 terms.ded3 carry

-- 14
abbrev pub limit : Rule
limit terms tiv carry = limited terms.lim1 carry

-- 15
abbrev pub limit_of_loss : Rule
limit_of_loss terms tiv carry = limited (ppm_part carry.loss terms.lim1) carry

-- 16
abbrev pub deductible_of_loss : Rule
deductible_of_loss terms tiv carry = deduct (part_of terms carry.loss) carry

-- 17
abbrev pub deductible_of_loss_attachment_limit_and_share : Rule
deductible_of_loss_attachment_limit_and_share terms tiv carry = shared terms.share1 (limited terms.lim1 (attached terms.att1 (deduct (part_of terms carry.loss) carry)))

-- 18
abbrev pub deductible_of_tiv_attachment_limit_and_share : Rule
deductible_of_tiv_attachment_limit_and_share terms tiv carry = shared terms.share1 (limited terms.lim1 (attached terms.att1 (deduct (part_of terms tiv) carry)))

-- 19
abbrev pub bounded_deductible_of_loss : Rule
bounded_deductible_of_loss terms tiv carry = deduct (bounded_part_of terms carry.loss) carry

-- 20
abbrev pub reverse_franchise_deductible : Rule
reverse_franchise_deductible terms tiv carry = above_franchise terms.ded1 carry

-- 21
abbrev pub bounded_deductible_of_tiv : Rule
bounded_deductible_of_tiv terms tiv carry = deduct (bounded_part_of terms tiv) carry

-- 22
abbrev pub share_limit_and_two_shares : Rule
share_limit_and_two_shares terms tiv carry = shared terms.share3 (shared terms.share2 (limited terms.lim1 (shared terms.share1 carry)))

-- 23
abbrev pub limit_and_two_shares : Rule
limit_and_two_shares terms tiv carry = shared terms.share3 (shared terms.share2 (limited terms.lim1 carry))

-- 24
abbrev pub attachment_limit_and_two_shares : Rule
attachment_limit_and_two_shares terms tiv carry = shared terms.share3 (shared terms.share2 (limited terms.lim1 (attached terms.att1 carry)))

-- 25
abbrev pub three_shares : Rule
three_shares terms tiv carry = shared terms.share3 (shared terms.share2 (shared terms.share1 carry))

-- 26
abbrev pub bounded_deductible_of_loss_and_limit : Rule
bounded_deductible_of_loss_and_limit terms tiv carry = limited terms.lim1 (deduct (bounded_part_of terms carry.loss) carry)

-- 100
abbrev pub no_terms : Rule
no_terms terms tiv carry = carry

-- ---- their numbers

-- the rules by their numbers
abbrev pub rules : List (ℕ × Rule)
rules =
    (1, deductible_and_limit) ∷ (2, deductible_attachment_limit_and_share) ∷ (3, franchise_deductible_and_limit) ∷
    (4, deductible_of_tiv_and_limit) ∷ (5, deductible_of_loss_and_limit_of_loss) ∷ (6, deductible_of_tiv) ∷
    (7, maximum_deductible_and_limit) ∷ (8, minimum_deductible_and_limit) ∷ (9, deductible_of_limit_and_limit) ∷
    (10, maximum_deductible) ∷ (11, minimum_deductible) ∷ (12, deductible) ∷ (13, minimum_or_maximum_deductible) ∷
    (14, limit) ∷ (15, limit_of_loss) ∷ (16, deductible_of_loss) ∷ (17, deductible_of_loss_attachment_limit_and_share) ∷
    (18, deductible_of_tiv_attachment_limit_and_share) ∷ (19, bounded_deductible_of_loss) ∷ (20, reverse_franchise_deductible) ∷
    (21, bounded_deductible_of_tiv) ∷ (22, share_limit_and_two_shares) ∷ (23, limit_and_two_shares) ∷
    (24, attachment_limit_and_two_shares) ∷ (25, three_shares) ∷ (26, bounded_deductible_of_loss_and_limit) ∷
    (100, no_terms) ∷ []

-- the rule with a number among some, which leaves the amounts as they are where there is none
abbrev pub rule_among : List (ℕ × Rule) → ℕ → Rule
rule_among [] number = no_terms
rule_among (entry ∷ entries) number = cond (nat_eq entry.0 number) entry.1 (rule_among entries number)

-- the rule with a number
unfoldable pub rule_of : ℕ → Rule
rule_of number = rule_among rules number

-- what a profile makes of the four amounts, beside the insured value
abbrev pub applied : Profile → ℕ → Carry → Carry
applied profile tiv carry = rule_of profile.rule profile tiv carry

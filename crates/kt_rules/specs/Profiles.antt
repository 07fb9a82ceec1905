-- The terms of a profile, and the ranges that go by its rule.
-- The rules: docs/FINANCIAL_MODULE.md, "Terms".
use Rattle.std.specs.Prelude.{◌≡◌, ℕ, ◌≤◌, ◌&&◌, Bool, true, cond, nat_le}
use Rattle.kt_rec.specs.Ranges.{is_rule_number, is_deductible_part, is_limit_part}
use Rattle.kt_rec.specs.declared.financial.FmProfile.{FmProfile}
use Rattle.kt_rules.specs.declared.profile.Profile.{Profile}

-- the most of a term, by whether it is in parts per million or in cents
abbrev pub most_of : Bool → ℕ
most_of is_part = cond is_part 1000000 100000000000000000

-- whether the rule is known and each term is in its range
abbrev pub is_good : Profile → Bool
is_good profile =
    is_rule_number profile.rule
    && nat_le profile.ded1 (most_of (is_deductible_part profile.rule))
    && nat_le profile.ded2 100000000000000000
    && nat_le profile.ded3 100000000000000000
    && nat_le profile.att1 100000000000000000
    && nat_le profile.lim1 (most_of (is_limit_part profile.rule))
    && nat_le profile.share1 1000000
    && nat_le profile.share2 1000000
    && nat_le profile.share3 1000000

-- the rule is known, and each term is in its range
pub record IsProfile (profile : Profile) : Type 0 where
  pub rule : is_rule_number profile.rule ≡ true
  pub ded1 : profile.ded1 ≤ most_of (is_deductible_part profile.rule)
  pub ded2 : profile.ded2 ≤ 100000000000000000
  pub ded3 : profile.ded3 ≤ 100000000000000000
  pub att1 : profile.att1 ≤ 100000000000000000
  pub lim1 : profile.lim1 ≤ most_of (is_limit_part profile.rule)
  pub share1 : profile.share1 ≤ 1000000
  pub share2 : profile.share2 ≤ 1000000
  pub share3 : profile.share3 ≤ 1000000

-- the terms of a row
abbrev pub profile_of : FmProfile → Profile
profile_of row = record {
  rule = row.calcrule_id;
  ded1 = row.deductible1;
  ded2 = row.deductible2;
  ded3 = row.deductible3;
  att1 = row.attachment1;
  lim1 = row.limit1;
  share1 = row.share1;
  share2 = row.share2;
  share3 = row.share3;
}

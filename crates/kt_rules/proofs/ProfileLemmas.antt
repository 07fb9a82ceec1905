-- Lemmas on profiles: a test that passes, and the steps that a rule may take.
use Rattle.std.proofs.Common.{◌≡◌, ℕ, zero, suc, true, nat_le, List, [], ◌∷◌, get_or, refl}
use Rattle.std.proofs.lemmas.Bool.{and_parts, leb-true}
use Rattle.kt_rules.specs.declared.profile.Profile.{Profile}
use Rattle.kt_rules.specs.declared.steps.Step.{Step}
use Rattle.kt_rules.specs.declared.steps.Step.TheVariants as step
use Rattle.kt_rec.specs.Ranges.{is_rule_number, is_deductible_part, is_limit_part}
use Rattle.kt_rules.specs.Profiles.{is_good, most_of, IsProfile}
use Rattle.kt_rules.specs.Steps.{can_step, can_take}

-- a profile that passes the test is one
pub is_good-is : (profile : Profile) → is_good profile ≡ true → IsProfile profile
is_good-is profile good =
    let h8 = and_parts _ (nat_le profile.share3 1000000) good in
    let h7 = and_parts _ (nat_le profile.share2 1000000) h8.0 in
    let h6 = and_parts _ (nat_le profile.share1 1000000) h7.0 in
    let h5 = and_parts _ (nat_le profile.lim1 (most_of (is_limit_part profile.rule))) h6.0 in
    let h4 = and_parts _ (nat_le profile.att1 100000000000000000) h5.0 in
    let h3 = and_parts _ (nat_le profile.ded3 100000000000000000) h4.0 in
    let h2 = and_parts _ (nat_le profile.ded2 100000000000000000) h3.0 in
    let h1 = and_parts (is_rule_number profile.rule) (nat_le profile.ded1 (most_of (is_deductible_part profile.rule))) h2.0 in
    record {
      rule = h1.0;
      ded1 = leb-true _ _ h1.1;
      ded2 = leb-true _ _ h2.1;
      ded3 = leb-true _ _ h3.1;
      att1 = leb-true _ _ h4.1;
      lim1 = leb-true _ _ h5.1;
      share1 = leb-true _ _ h6.1;
      share2 = leb-true _ _ h7.1;
      share3 = leb-true _ _ h8.1;
    }

-- of steps that a rule may take it may take each
pub can_take_at : (steps : List Step) (rule k : ℕ) → can_take steps rule ≡ true → can_step (get_or steps k step.Nothing) rule ≡ true
can_take_at [] rule k can = refl
can_take_at (first ∷ steps) rule zero can = (and_parts (can_step first rule) (can_take steps rule) can).0
can_take_at (first ∷ steps) rule (suc k) can = can_take_at steps rule k (and_parts (can_step first rule) (can_take steps rule) can).1

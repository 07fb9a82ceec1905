-- What the words of a run of all stages promise.
use Rattle.std.proofs.Common.{◌≡◌, ◌≤◌, ℕ, Bool, true, false, Option, Some, None, refl, subst, arith, cond}
use Rattle.std.specs.Prelude.{not, ◌&&◌, is_some}
use Rattle.kt_rec.specs.declared.perspective.Perspective.{Perspective}
use Rattle.kt_rec.specs.declared.perspective.Perspective.TheVariants.{Gul, Il, Ri}
use Rattle.kt_words.specs.Command.{number_or, number_or_0, losses_or_first, chain_command, AreNet, IsCommand}
use Rattle.kt_words.specs.Fits.{FitsWord, IsRead}
use Rattle.kt_words.specs.Given.{given_at, is_given}
use Rattle.kt_words.specs.Judging.{is_zero, is_net, is_missing, lacks_some, lacks_by_some_rule, or_else, word_by_rule}
use Rattle.kt_words.specs.declared.given.Given.{Given}
use Rattle.kt_words.specs.declared.given.GivenWord.{GivenWord}
use Rattle.kt_words.specs.declared.rows.Condition.TheVariants.{Always, Zero, Net, NotNet}
use Rattle.kt_words.specs.declared.rows.Form.TheVariants as form
use Rattle.kt_words.specs.declared.rows.OptionRow.TheVariants.{Free, Needed}
use Rattle.kt_words.specs.declared.rows.Rule.TheVariants.{RefusedWhere}
use Rattle.kt_words.specs.declared.tool.Tool.TheVariants.{Chain}
use Rattle.kt_words.specs.declared.value.Value.{Value}
use Rattle.kt_words.specs.declared.value.Value.TheVariants as value
use Rattle.kt_words.proofs.Fitting.{nothing_missing, nothing_clashes, number_said, not_zero, either, negated, word_named}

-- a number of an option that may be left out is within its bounds, where the number that stands for it is
pub number_or_within : (least most other : ℕ) (found : Option GivenWord) → least ≤ other → other ≤ most → FitsWord (form.Number least most) found → (least ≤ number_or found other) × (number_or found other ≤ most)
number_or_within least most other None low high fits = (low, high)
number_or_within least most other (Some given) low high fits = number_said least most (Some given) refl fits

-- one that is 0 where it is left out is at most the greatest
number_upto : (least most : ℕ) (found : Option GivenWord) → FitsWord (form.Number least most) found → number_or_0 found ≤ most
number_upto least most None fits = omega arith
number_upto least most (Some given) fits = (number_said least most (Some given) refl fits).1

-- a word that said net losses said `ri`
net_said : (found : Option GivenWord) → losses_or_first found ≡ Ri → is_net found ≡ true
net_said None is = cc
net_said (Some given) is = by_value given.value is
  where
    by_perspective : (perspective : Perspective) → perspective ≡ Ri → is_net (Some (record { word = given.word; value = value.Losses perspective })) ≡ true
    by_perspective Ri e = refl
    by_perspective Il e = cc
    by_perspective Gul e = cc

    by_value : (said : Value) → losses_or_first (Some (record { word = given.word; value = said })) ≡ Ri → is_net (Some (record { word = given.word; value = said })) ≡ true
    by_value (value.Losses perspective) e = by_perspective perspective e
    by_value (value.Number number) e = cc
    by_value (value.Table table) e = cc
    by_value value.Bare e = cc

-- an option that said 0 was given
zero_given : (found : Option GivenWord) → is_zero found ≡ true → is_some found ≡ true
zero_given None is = cc
zero_given (Some given) is = refl

module _ (given : Given) (read : IsRead Chain given) where
  complete : is_missing given Chain ≡ false
  complete = nothing_missing Chain given read.count read.finished

  samples_given : is_given given 83 ≡ true
  samples_given =
      let options = either (lacks_some given Chain) (lacks_by_some_rule given Chain) complete in
      let samples = either (not (is_given given 83)) _ options.0 in
      negated (is_given given 83) samples.0

  -- with -l ri there is -r
  stages_given : is_net (given_at given 108) ≡ true → is_given given 114 ≡ true
  stages_given net =
      let options = either (lacks_some given Chain) (lacks_by_some_rule given Chain) complete in
      let stages = either (is_net (given_at given 108) && not (is_given given 114)) _ options.1 in
      negated (is_given given 114) (subst (λ b. (b && not (is_given given 114)) ≡ false) net stages.0)

  -- with -l ri there is no -a 0
  rule_not_zero : is_net (given_at given 108) ≡ true → is_zero (given_at given 97) ≡ false
  rule_not_zero net = by_test (is_zero (given_at given 97)) refl
    where
      -- what clashes by the two rules that refuse an option
      clash_by : (stages rule zero losses : Bool) → Option ℕ
      clash_by stages rule zero losses = or_else given.doubled (word_by_rule given (cond (stages && (true && not losses)) (Some (RefusedWhere 114 Always (NotNet 108))) (cond (rule && (zero && losses)) (Some (RefusedWhere 97 (Zero 97) (Net 108))) None)))

      named : (stages : Bool) → is_given given 97 ≡ true → clash_by stages true true true ≡ None → ⊥
      named true there h = word_named (given_at given 97) given.doubled there h
      named false there h = word_named (given_at given 97) given.doubled there h

      clashes : is_zero (given_at given 97) ≡ true → clash_by (is_given given 114) true true true ≡ None
      clashes zero =
          subst (λ b. clash_by (is_given given 114) b true true ≡ None) (zero_given (given_at given 97) zero)
          (subst (λ b. clash_by (is_given given 114) (is_given given 97) b true ≡ None) zero
          (subst (λ b. clash_by (is_given given 114) (is_given given 97) (is_zero (given_at given 97)) b ≡ None) net
          (nothing_clashes Chain given read.count read.finished)))

      by_test : (zero : Bool) → is_zero (given_at given 97) ≡ zero → is_zero (given_at given 97) ≡ false
      by_test false e = e
      by_test true e = absurd (named (is_given given 114) (zero_given (given_at given 97) e) (clashes e))

  net_rule_kept : (found : Option GivenWord) → FitsWord (form.Number 0 2) found → is_zero found ≡ false → 1 ≤ number_or found 2
  net_rule_kept None fits more = omega arith
  net_rule_kept (Some one) fits more = not_zero 0 2 (Some one) refl fits more

  net_kept : (last : Perspective) → losses_or_first (given_at given 108) ≡ last → AreNet last (number_or (given_at given 97) 2) (number_or_0 (given_at given 114))
  net_kept Gul is = tt
  net_kept Il is = tt
  net_kept Ri is =
      let net : is_net (given_at given 108) ≡ true = net_said (given_at given 108) is in
      (net_rule_kept (given_at given 97) (read.fits.options 97 (Free 97 (form.Number 0 2)) refl) (rule_not_zero net), (number_said 1 9 (given_at given 114) (stages_given net) (read.fits.options 114 (Free 114 (form.Number 1 9)) refl)).0)

  -- the command of a run of all stages can be carried out
  pub chain_kept : IsCommand (chain_command given)
  chain_kept =
      let samples = number_said 1 1000 (given_at given 83) samples_given (read.fits.options 83 (Needed 83 (form.Number 1 1000)) refl) in
      let workers = number_or_within 1 16 1 (given_at given 119) (omega arith) (omega arith) (read.fits.options 119 (Free 119 (form.Number 1 16)) refl) in
      let events = number_or_within 1 4 4 (given_at given 98) (omega arith) (omega arith) (read.fits.options 98 (Free 98 (form.Number 1 4)) refl) in
      record {
        some_samples = samples.0;
        few_samples = samples.1;
        known_rule = (number_or_within 0 2 2 (given_at given 97) (omega arith) (omega arith) (read.fits.options 97 (Free 97 (form.Number 0 2)) refl)).1;
        few_stages = number_upto 1 9 (given_at given 114) (read.fits.options 114 (Free 114 (form.Number 1 9)) refl);
        net = net_kept (losses_or_first (given_at given 108)) refl;
        some_workers = workers.0;
        few_workers = workers.1;
        some_events = events.0;
        few_events = events.1;
      }

use Rattle.std.proofs.Common.{◌∙◌, ap, slice_index, sym}
use Rattle.kt_rules.specs.declared.carry.Carry.{Carry}
use Rattle.kt_rules.specs.Each.{steps-alone}
use Rattle.kt_rules.specs.LossAlone.{untouched}
use Rattle.kt_rules.proofs.each.apply_each.Goals as goal

pub returns-then-are_alone : goal.returns-then-are_alone
returns-then-are_alone c =
    let profile = c.args.profile.now in
    let tiv = c.args.tiv in
    let made = c.four_steps_each.ensures.value in
    let alone = sym c.are_alone.ensures.value ∙ c.if-are_alone.true in
    record {
      value = record {
        wide = made.wide;
        each = λ k below.
            let loss = slice_index c.args.losses.now k in
            made.each k below
            ∙ (sym (steps-alone c.steps_of-steps.result alone profile tiv loss (untouched loss)) ∙ ap (λ (carry : Carry). carry.loss) (c.steps_of-steps.ensures.value profile tiv (untouched loss)));
      };
    }

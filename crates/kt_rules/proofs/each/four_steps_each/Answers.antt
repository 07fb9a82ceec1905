use Rattle.std.proofs.Common.{◌≡◌, List, length, get_or, sym, subst}
use Rattle.kt_rules.specs.declared.steps.Step.{Step}
use Rattle.kt_rules.specs.declared.steps.Step.TheVariants as step
use Rattle.kt_rules.specs.Each.{IsEach, each-few, each-then, step_loss, steps_loss}
use Rattle.kt_rules.proofs.EachLemmas.{alone_at, four}
use Rattle.kt_rules.proofs.ProfileLemmas.{can_take_at}
use Rattle.kt_rules.proofs.each.four_steps_each.Goals as goal

pub step_each-requires-3-clause-can : goal.step_each-requires-3-clause-can
step_each-requires-3-clause-can c = can_take_at c.args.steps c.args.terms.now.rule 2 c.requires.can

pub step_each-requires-3-clause-alone : goal.step_each-requires-3-clause-alone
step_each-requires-3-clause-alone c = alone_at c.args.steps 2 c.requires.alone

pub step_each-requires-3-clause-few : goal.step_each-requires-3-clause-few
step_each-requires-3-clause-few c = (each-few (get_or c.args.steps 1 step.Nothing) (alone_at c.args.steps 1 c.requires.alone) c.args.terms.now c.requires.terms c.args.tiv c.step_each.new.losses c.step_each-2.new.losses c.step_each-2.ensures.value (each-few (get_or c.args.steps 0 step.Nothing) (alone_at c.args.steps 0 c.requires.alone) c.args.terms.now c.requires.terms c.args.tiv c.args.losses.now c.step_each.new.losses c.step_each.ensures.value c.requires.few))

pub step_each-requires-4-clause-can : goal.step_each-requires-4-clause-can
step_each-requires-4-clause-can c = can_take_at c.args.steps c.args.terms.now.rule 3 c.requires.can

pub step_each-requires-4-clause-alone : goal.step_each-requires-4-clause-alone
step_each-requires-4-clause-alone c = alone_at c.args.steps 3 c.requires.alone

pub step_each-requires-4-clause-few : goal.step_each-requires-4-clause-few
step_each-requires-4-clause-few c = (each-few (get_or c.args.steps 2 step.Nothing) (alone_at c.args.steps 2 c.requires.alone) c.args.terms.now c.requires.terms c.args.tiv c.step_each-2.new.losses c.step_each-3.new.losses c.step_each-3.ensures.value (each-few (get_or c.args.steps 1 step.Nothing) (alone_at c.args.steps 1 c.requires.alone) c.args.terms.now c.requires.terms c.args.tiv c.step_each.new.losses c.step_each-2.new.losses c.step_each-2.ensures.value (each-few (get_or c.args.steps 0 step.Nothing) (alone_at c.args.steps 0 c.requires.alone) c.args.terms.now c.requires.terms c.args.tiv c.args.losses.now c.step_each.new.losses c.step_each.ensures.value c.requires.few)))

pub returns : goal.returns
returns c =
    let long : length c.args.steps ≡ 4 = search in
    let a = step_loss (get_or c.args.steps 0 step.Nothing) c.args.terms.now c.args.tiv in
    let b = step_loss (get_or c.args.steps 1 step.Nothing) c.args.terms.now c.args.tiv in
    let d = step_loss (get_or c.args.steps 2 step.Nothing) c.args.terms.now c.args.tiv in
    let e = step_loss (get_or c.args.steps 3 step.Nothing) c.args.terms.now c.args.tiv in
    record {
      value =
          subst (λ (steps : List Step). IsEach (steps_loss steps c.args.terms.now c.args.tiv) c.args.losses.now c.step_each-4.new.losses) (sym (four c.args.steps long))
          (each-then (λ n. d (b (a n))) e c.args.losses.now c.step_each-3.new.losses c.step_each-4.new.losses
          (each-then (λ n. b (a n)) d c.args.losses.now c.step_each-2.new.losses c.step_each-3.new.losses
          (each-then a b c.args.losses.now c.step_each.new.losses c.step_each-2.new.losses c.step_each.ensures.value c.step_each-2.ensures.value) c.step_each-3.ensures.value) c.step_each-4.ensures.value);
    }

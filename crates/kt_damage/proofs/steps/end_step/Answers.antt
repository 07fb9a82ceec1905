use Rattle.std.proofs.Common.{arith}
use Rattle.kt_damage.proofs.StepLemmas.{flat_is}
use Rattle.kt_damage.proofs.steps.end_step.Goals as goal

pub returns-clause-value : goal.returns-clause-value
returns-clause-value c =
    let same = c.from.ensures in
    let least = c.scaled.ensures.least in
    let most = c.scaled.ensures.most in
    let few = c.first_behind-first.ensures.few in
    let high = c.requires.most in
    record {
      numbers = omega arith;
      fits = omega arith;
      loss_is = λ tiv over value within. flat_is tiv c.args.high c.scaled.result over value (omega arith) (omega arith);
    }

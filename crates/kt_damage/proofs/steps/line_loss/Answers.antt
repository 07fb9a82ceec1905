use Rattle.std.proofs.Common.{ap, ◌∙◌}
use Rattle.kt_damage.specs.Steps.{line_loss}
use Rattle.kt_damage.proofs.StepLemmas.{words_of}
use Rattle.kt_damage.proofs.steps.line_loss.Goals as goal

pub returns : goal.returns
returns c = record {
  value = words_of c.from-value.result c.args.damage 4611686018427387904 ∙ ap (λ tiv. line_loss tiv c.args.damage) c.from-value.ensures;
}

use Rattle.std.proofs.Common.{◌+◌, ◌*◌, ap, ◌∙◌}
use Rattle.kt_damage.specs.Steps.{line_loss}
use Rattle.kt_damage.proofs.steps.Step.loss.Goals as goal

pub returns : goal.returns
returns c = record {
  value = c.line_loss.ensures.value ∙ ap (λ over. line_loss c.args.tiv (c.args.self.now.least + c.args.self.now.rise * over)) c.from.ensures;
}

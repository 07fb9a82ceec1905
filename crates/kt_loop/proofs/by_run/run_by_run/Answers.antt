use Rattle.std.proofs.Common.{◌∙◌}
use Rattle.kt_loop.proofs.by_run.run_by_run.Goals as goal

pub returns : goal.returns
returns g c = record {
  ended = λ asks made others outputs keeps told.
      c.run_stage.ensures.ended asks made others outputs keeps
      (λ files bytes finds.
      let makes = told files bytes finds in
      record { start = makes.start; stood = (makes.stood.0, c.new.ensures ∙ makes.stood.1); is = makes.is });
}

use Rattle.kt_loop.proofs.RunStepping.{opened_step}
use Rattle.kt_loop.proofs.by_run.ByRunStage.open.Goals as goal

pub returns-clause-step : goal.returns-clause-step
returns-clause-step g c state at =
    opened_step g.E.RunRecord.key g.C.RunStage.runs c.args.head (λ kept. g.C.RunStage.is_at kept c.open.new.self c.open.new.beside) c.args.self.now.run state.run c.args.out.now c.open.new.out _ c.open.result at.1 (c.open.ensures.step state.kept at.0)

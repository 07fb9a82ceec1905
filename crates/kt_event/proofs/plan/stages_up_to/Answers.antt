use Rattle.kt_event.specs.Loading.{loads_stage}
use Rattle.kt_event.proofs.plan.stages_up_to.Goals as goal

pub first_stages-requires-clause-loaded : goal.first_stages-requires-clause-loaded
first_stages-requires-clause-loaded c = loads_stage c.args.terms.now c.args.portfolio.now.need c.requires.need c.requires.terms c.in-Ri.is

use Rattle.kt_loop.specs.RunsGiven.{outcome_runs}
use Rattle.kt_loop.proofs.laws.runs_give_their_text.Goals as goal

pub returns : goal.returns
returns g c = outcome_runs

use Rattle.kt_loop.proofs.RunLists.{are_runs}
use Rattle.kt_loop.proofs.laws.runs_are_the_records.Goals as goal

pub returns : goal.returns
returns g c = are_runs

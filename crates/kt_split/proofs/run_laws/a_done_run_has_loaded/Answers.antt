use Rattle.kt_split.specs.RunDone.{run_is_done}
use Rattle.kt_split.proofs.run_laws.a_done_run_has_loaded.Goals as goal

pub returns : goal.returns
returns c = run_is_done

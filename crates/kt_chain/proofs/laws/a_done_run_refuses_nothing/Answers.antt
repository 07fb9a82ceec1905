use Rattle.kt_chain.specs.DoneLaws.{refuses_nothing}
use Rattle.kt_chain.proofs.laws.a_done_run_refuses_nothing.Goals as goal

pub returns : goal.returns
returns c = refuses_nothing

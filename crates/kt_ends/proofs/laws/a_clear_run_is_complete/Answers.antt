use Rattle.kt_ends.proofs.Clearing.{is_complete}
use Rattle.kt_ends.proofs.laws.a_clear_run_is_complete.Goals as goal

pub returns : goal.returns
returns c = record { complete = is_complete }

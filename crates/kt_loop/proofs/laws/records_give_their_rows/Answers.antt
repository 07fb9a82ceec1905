use Rattle.kt_loop.proofs.Rows.{outcome_rows}
use Rattle.kt_loop.proofs.laws.records_give_their_rows.Goals as goal

pub returns : goal.returns
returns g c = outcome_rows

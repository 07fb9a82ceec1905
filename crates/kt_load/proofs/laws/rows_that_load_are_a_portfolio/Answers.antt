use Rattle.kt_load.proofs.LoadedLemmas.{loaded_portfolio}
use Rattle.kt_load.proofs.laws.rows_that_load_are_a_portfolio.Goals as goal

pub returns : goal.returns
returns c = loaded_portfolio

use Rattle.kt_period_cells.proofs.CountedKeys.{cells_counted, cells_listed}
use Rattle.kt_period_cells.proofs.laws.cells_are_the_keys_with_a_total.Goals as goal

pub returns : goal.returns
returns c = record { listed = cells_listed; count = cells_counted }

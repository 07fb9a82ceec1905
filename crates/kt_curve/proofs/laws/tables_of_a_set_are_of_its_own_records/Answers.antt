use Rattle.kt_curve.specs.OwnTables.{own_averages, own_curves}
use Rattle.kt_curve.proofs.laws.tables_of_a_set_are_of_its_own_records.Goals as goal

pub returns-clause-averages : goal.returns-clause-averages
returns-clause-averages c = own_averages

pub returns-clause-curves : goal.returns-clause-curves
returns-clause-curves c = own_curves

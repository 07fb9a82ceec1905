use Rattle.kt_chain.specs.RunLaws.{averages_empty, curves_empty, refused_files}
use Rattle.kt_chain.proofs.laws.tables_over_all_periods_stand_empty_after_a_refusal.Goals as goal

pub returns-clause-files : goal.returns-clause-files
returns-clause-files c = refused_files

pub returns-clause-averages : goal.returns-clause-averages
returns-clause-averages c = averages_empty

pub returns-clause-curves : goal.returns-clause-curves
returns-clause-curves c = curves_empty

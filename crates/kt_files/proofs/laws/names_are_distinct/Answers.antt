use Rattle.kt_files.specs.DistinctNames.{output_names_are_distinct}
use Rattle.kt_files.proofs.laws.names_are_distinct.Goals as goal

pub returns : goal.returns
returns c = record { distinct = output_names_are_distinct }

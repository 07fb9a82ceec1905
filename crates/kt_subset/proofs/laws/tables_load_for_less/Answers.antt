use Rattle.kt_subset.specs.Loading.{loads_within}
use Rattle.kt_subset.proofs.laws.tables_load_for_less.Goals as goal

pub returns : goal.returns
returns c = loads_within

use Rattle.kt_cells.proofs.WrittenLemmas.{records-read_back}
use Rattle.kt_cells.proofs.laws.records_are_read_back.Goals as goal

pub returns : goal.returns
returns c = records-read_back

use Rattle.kt_cells.proofs.WrittenLemmas.{headers-read_back}
use Rattle.kt_cells.proofs.laws.headers_are_read_back.Goals as goal

pub returns : goal.returns
returns c = headers-read_back

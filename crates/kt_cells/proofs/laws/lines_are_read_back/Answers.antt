use Rattle.kt_cells.proofs.LineLemmas.{lines-read_back}
use Rattle.kt_cells.proofs.laws.lines_are_read_back.Goals as goal

pub returns : goal.returns
returns c = lines-read_back c.counts_are_read_back.ensures c.amounts_are_read_back.ensures c.rows_are_read_back.ensures

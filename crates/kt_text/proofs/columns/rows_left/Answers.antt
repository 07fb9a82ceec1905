use Rattle.std.proofs.Common.{arith}
use Rattle.kt_text.proofs.RowLemmas.{row_reading}
use Rattle.kt_text.proofs.columns.rows_left.Goals as goal

pub returns-then-len-clause-refused : goal.returns-then-len-clause-refused
returns-then-len-clause-refused g c = grind (arith, row_reading)

pub returns-clause-absent : goal.returns-clause-absent
returns-clause-absent g c = grind (arith, row_reading)

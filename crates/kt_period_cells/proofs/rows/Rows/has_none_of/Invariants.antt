-- None of the rows so far is here.
use Rattle.std.proofs.Common.{take}
use Rattle.kt_period_cells.specs.Rows.{AreAbsent, row_keys}
use Rattle.kt_period_cells.proofs.rows.Rows.has_none_of.Given as goal

abbrev pub invariant-loop-row : goal.invariant-loop-row
invariant-loop-row l = AreAbsent (row_keys (take l.row-index l.rows)) (row_keys l.self.rows)

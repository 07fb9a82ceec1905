use Rattle.std.proofs.Common.{◌≤◌, drop}
use Rattle.kt_cells.specs.Lines.{LineFrom}
use Rattle.kt_cells.proofs.lines.write_long_line.Given as goal

abbrev pub invariant-loop-column : goal.invariant-loop-column
invariant-loop-column g l = record { start : l.at ≤ l.end; within : l.column ≤ g.row.N; line : LineFrom l.kinds l.values l.end (drop l.end l.fn.text) l.text l.at l.column }

abbrev pub decreases-loop-column : goal.decreases-loop-column
decreases-loop-column g l = l.column

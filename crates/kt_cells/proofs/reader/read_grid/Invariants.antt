use Rattle.std.proofs.Common.{◌≡◌, ◌+◌, drop}
use Rattle.kt_cells.specs.Reading.{table_rows}
use Rattle.kt_cells.specs.Taking.{HandsFront}
use Rattle.kt_cells.specs.Texts.{text_value}
use Rattle.kt_cells.proofs.reader.read_grid.Given as goal

abbrev pub invariant-loop-row : goal.invariant-loop-row
invariant-loop-row g l =
    HandsFront (λ rows. l.rows.items ≡ rows) (table_rows text_value l.ordered 1 l.kinds 0 1 l.grid) (table_rows text_value l.ordered 1 l.kinds l.floor (l.row + 1) (drop l.row l.grid))

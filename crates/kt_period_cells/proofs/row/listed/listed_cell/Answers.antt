-- The cell at its place, or none in a gap.
use Rattle.std.proofs.Common.{sym}
use Rattle.kt_period_cells.proofs.RowCells.{cell_found, cell_in_gap}
use Rattle.kt_period_cells.proofs.row.listed.listed_cell.Goals as goal

pub returns-in-Ok : goal.returns-in-Ok
returns-in-Ok c = record { value = sym (cell_found c.args.cells.now c.requires c.args.sample c.in-Ok.at c.in-Ok.ensures.found) }

pub returns-in-Err : goal.returns-in-Err
returns-in-Err c = record { value = sym (cell_in_gap c.args.cells.now c.requires c.args.sample c.in-Err.field-0 c.in-Err.ensures.absent) }

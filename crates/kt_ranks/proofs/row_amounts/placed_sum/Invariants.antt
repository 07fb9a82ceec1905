-- The sum of the first amounts.
use Rattle.std.proofs.Common.{◌≡◌, ◌≤◌, ◌*◌, ◌^◌, false, take}
use Rattle.std.specs.Prelude.{sum}
use Rattle.kt_period_cells.specs.RowCells.{placed}
use Rattle.kt_period_cells.specs.SummaryRows.{cell_amounts}
use Rattle.kt_ranks.proofs.row_amounts.placed_sum.Given as goal

abbrev pub invariant-loop-cell : goal.invariant-loop-cell
invariant-loop-cell l = record {
  total : l.total ≡ sum (cell_amounts l.maxima false (placed 1 (take l.cell-index l.samples)));
  bound : l.total ≤ l.cell-index * 2 ^ 64;
}

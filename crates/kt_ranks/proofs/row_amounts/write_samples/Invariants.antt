-- The amounts of the first places are written.
use Rattle.std.proofs.Common.{◌≡◌, ◌≤◌, ◌+◌, ◌++◌, false, length, take}
use Rattle.kt_period_cells.specs.RowCells.{placed}
use Rattle.kt_period_cells.specs.SummaryRows.{cell_amounts}
use Rattle.kt_ranks.proofs.row_amounts.write_samples.Given as goal

abbrev pub invariant-loop-cell : goal.invariant-loop-cell
invariant-loop-cell l = record {
  size : length l.values ≡ length l.fn.values;
  few : l.end ≤ l.used + l.cell-index;
  value : take l.end l.values ≡ take l.used l.fn.values ++ cell_amounts l.maxima false (placed 1 (take l.cell-index l.samples));
}

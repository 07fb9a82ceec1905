-- The sum of the first amounts.
use Rattle.std.proofs.Common.{◌≡◌, ◌≤◌, ◌*◌, ◌^◌, false, take}
use Rattle.std.specs.Prelude.{sum}
use Rattle.kt_period_cells.specs.SummaryRows.{cell_amounts}
use Rattle.kt_ranks.proofs.row_amounts.listed_sum.Given as goal

abbrev pub invariant-loop-one : goal.invariant-loop-one
invariant-loop-one l = record {
  total : l.total ≡ sum (cell_amounts l.maxima false (take l.one-index l.cells));
  bound : l.total ≤ l.one-index * 2 ^ 64;
}

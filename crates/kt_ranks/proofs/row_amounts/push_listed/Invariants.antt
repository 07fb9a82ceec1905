-- The amounts of the first cells.
use Rattle.std.proofs.Common.{◌≡◌, ◌++◌, take}
use Rattle.kt_period_cells.specs.SummaryRows.{cell_amounts}
use Rattle.kt_ranks.proofs.row_amounts.push_listed.Given as goal

abbrev pub invariant-loop-one : goal.invariant-loop-one
invariant-loop-one l = l.found.items ≡ l.fn.found.items ++ cell_amounts l.maxima l.mean (take l.one-index l.cells)

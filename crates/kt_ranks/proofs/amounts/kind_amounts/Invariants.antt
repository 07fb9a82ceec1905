-- The amounts of the first rows.
use Rattle.std.proofs.Common.{◌≡◌, take}
use Rattle.kt_cell.specs.Amounts.{amounts_of}
use Rattle.kt_period_cells.specs.SummaryRows.{place_entries}
use Rattle.kt_cell.specs.Sets.{of_kind}
use Rattle.kt_ranks.proofs.amounts.kind_amounts.Given as goal

abbrev pub invariant-loop-place : goal.invariant-loop-place
invariant-loop-place l = l.found.items ≡ amounts_of l.cells.maxima (of_kind l.mean) (place_entries l.cells.rows.now (take l.place-index l.cells.places.now))

-- The first cells have their places.
use Rattle.std.proofs.Common.{◌≡◌, ◌+◌, length, take}
use Rattle.kt_period_cells.specs.RowCells.{placed}
use Rattle.kt_period_cells.proofs.row.widening.places_of.Given as goal

abbrev pub invariant-loop-one : goal.invariant-loop-one
invariant-loop-one l = record {
  len : length l.places.items ≡ l.samples + 1;
  cells : placed 0 l.places.items ≡ take l.one-index l.cells;
}

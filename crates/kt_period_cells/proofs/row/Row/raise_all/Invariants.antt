-- The losses of the first pairs are in the row that has these places.
use Rattle.std.proofs.Common.{◌≡◌, ◌≤◌, length, take}
use Rattle.kt_period_cells.specs.declared.row.Row.{Row}
use Rattle.kt_period_cells.specs.Room.{Raises}
use Rattle.kt_period_cells.proofs.row.Row.raise_all.Given as goal

abbrev pub invariant-loop-pair : goal.invariant-loop-pair
invariant-loop-pair l = record {
  len : length l.places ≡ length l.fn.self.places.items;
  few : l.opened ≤ l.pair-index;
  raised : (row : Row) → row.key ≡ l.fn.self.key → row.places.items ≡ l.places → Raises l.samples l.fn.self row (take l.pair-index l.pairs) l.opened;
}

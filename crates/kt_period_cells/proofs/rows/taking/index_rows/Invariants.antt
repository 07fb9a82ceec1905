-- The rows before a place are noted, and there is room for the others.
use Rattle.std.proofs.Common.{◌+◌, ◌≤◌, length, take}
use Rattle.std.specs.HashMap.{spare}
use Rattle.kt_period_cells.specs.Rows.{IsIndexOf}
use Rattle.kt_period_cells.proofs.rows.taking.index_rows.Given as goal

abbrev pub invariant-loop-at : goal.invariant-loop-at
invariant-loop-at l = record {
  room : length l.rows ≤ l.at + spare l.index;
  found : IsIndexOf l.index.entries (take l.at l.rows);
}

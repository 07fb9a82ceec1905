-- The losses of a record in the rows at the first spots.
use Rattle.std.proofs.Common.{◌≡◌, ◌+◌, ◌-◌, ◌*◌, ◌≤◌, ℕ, List, ◌++◌, length, take}
use Rattle.std.specs.Prelude.{All}
use Rattle.std.specs.List.{flat_map}
use Rattle.kt_rec.specs.declared.perspective.Perspective.{Perspective}
use Rattle.kt_cell.specs.Losses.{KeyLoss}
use Rattle.kt_cell.specs.Standing.{Standing}
use Rattle.kt_period_cells.specs.Rows.{entries_of, row_keys, IsSpot}
use Rattle.kt_period_cells.specs.Room.{AreRoomy, added_sum}
use Rattle.kt_period_cells.proofs.SameLosses.{in_row}
use Rattle.kt_period_cells.proofs.rows.Rows.add_within.Given as goal

abbrev pub invariant-loop-spot : goal.invariant-loop-spot
invariant-loop-spot l = record {
  size : (l.self.periods ≡ l.fn.self.periods) × (l.self.samples ≡ l.fn.self.samples);
  rows : row_keys l.self.rows ≡ row_keys l.fn.self.rows;
  count : length (entries_of l.self.rows) ≤ length (entries_of l.fn.self.rows) + l.spot-index * length l.pairs;
  room : AreRoomy ((length l.spots - l.spot-index) * added_sum l.pairs) l.spots l.self.rows;
  step : (perspective : Perspective) (set summary : ℕ) (before : List KeyLoss) → All (IsSpot perspective set summary (row_keys l.fn.self.rows)) l.spots → Standing before (entries_of l.fn.self.rows) →
      Standing (before ++ flat_map (in_row perspective set summary l.pairs) (take l.spot-index l.spots)) (entries_of l.self.rows);
}

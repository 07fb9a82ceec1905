-- The rows of the first occurrences are there.
use Rattle.std.proofs.Common.{◌≡◌, map, take}
use Rattle.std.specs.Prelude.{All}
use Rattle.kt_period_cells.specs.Rows.{entries_of, row_keys, IsSpot}
use Rattle.kt_period_cells.proofs.rows.Rows.spots.Given as goal

abbrev pub invariant-loop-occurrence : goal.invariant-loop-occurrence
invariant-loop-occurrence l = record {
  size : (l.self.periods ≡ l.fn.self.periods) × (l.self.samples ≡ l.fn.self.samples);
  entries : entries_of l.self.rows ≡ entries_of l.fn.self.rows;
  spots : All (IsSpot l.perspective l.set l.summary (row_keys l.self.rows)) l.spots.items;
  periods : map (λ spot. spot.period) l.spots.items ≡ map (λ occurrence. occurrence.period_no) (take l.occurrence-index l.at);
}

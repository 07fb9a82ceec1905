-- The losses of the first pairs of a record.
use Rattle.std.proofs.Common.{◌≡◌, ◌≤◌, List, take}
use Rattle.std.specs.Prelude.{All}
use Rattle.std.specs.List.{flat_map}
use Rattle.kt_cell.specs.Losses.{KeyLoss}
use Rattle.kt_period_cells.specs.Rows.{entries_of, row_keys, spot_losses}
use Rattle.kt_cell.specs.Standing.{most_total, Standing}
use Rattle.kt_period_cells.specs.Journal.{Going}
use Rattle.kt_period_cells.proofs.rows.Rows.add_pairs.Given as goal

abbrev pub invariant-loop-pair : goal.invariant-loop-pair
invariant-loop-pair l = record {
  size : (l.self.periods ≡ l.fn.self.periods) × (l.self.samples ≡ l.fn.self.samples);
  rows : row_keys l.self.rows ≡ row_keys l.fn.self.rows;
  greatest : All (λ change. change.greatest ≤ most_total) l.journal.items;
  going : (before : List KeyLoss) → Standing before (entries_of l.fn.self.rows) → Going before (flat_map (spot_losses l.perspective l.set l.summary l.spots) (take l.pair-index l.pairs)) l.journal.items (entries_of l.self.rows);
}

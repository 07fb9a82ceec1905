-- The losses of a pair in the rows of the first occurrences.
use Rattle.std.proofs.Common.{◌≡◌, ◌≤◌, List, ◌++◌, map, take}
use Rattle.std.specs.Prelude.{All}
use Rattle.kt_cell.specs.Losses.{KeyLoss}
use Rattle.kt_period_cells.specs.Rows.{entries_of, row_keys, spot_loss}
use Rattle.kt_cell.specs.Standing.{most_total}
use Rattle.kt_period_cells.specs.Journal.{Going}
use Rattle.kt_period_cells.proofs.rows.Rows.add_pair.Given as goal

abbrev pub invariant-loop-spot : goal.invariant-loop-spot
invariant-loop-spot l = record {
  size : (l.self.periods ≡ l.fn.self.periods) × (l.self.samples ≡ l.fn.self.samples);
  rows : row_keys l.self.rows ≡ row_keys l.fn.self.rows;
  greatest : All (λ change. change.greatest ≤ most_total) l.journal.items;
  going : (before done : List KeyLoss) → Going before done l.fn.journal.items (entries_of l.fn.self.rows) → Going before (done ++ map (spot_loss l.perspective l.set l.summary l.pair) (take l.spot-index l.spots)) l.journal.items (entries_of l.self.rows);
}

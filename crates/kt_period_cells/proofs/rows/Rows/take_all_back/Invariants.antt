-- Changes taken back, the last first.
use Rattle.std.proofs.Common.{◌≡◌, ◌≤◌, List, length}
use Rattle.std.specs.Prelude.{All}
use Rattle.kt_cell.specs.Losses.{KeyLoss}
use Rattle.kt_cell.specs.Standing.{most_total}
use Rattle.kt_period_cells.specs.Rows.{entries_of}
use Rattle.kt_period_cells.specs.Journal.{Returns}
use Rattle.kt_period_cells.proofs.rows.Rows.take_all_back.Given as goal

abbrev pub invariant-loop-change : goal.invariant-loop-change
invariant-loop-change l = record {
  size : (l.self.periods ≡ l.initial.self.periods) × (l.self.samples ≡ l.initial.self.samples);
  greatest : All (λ change. change.greatest ≤ most_total) l.journal.items;
  returns : (before : List KeyLoss) → Returns before l.initial.journal.items (entries_of l.initial.self.rows) → Returns before l.journal.items (entries_of l.self.rows);
}

abbrev pub decreases-loop-change : goal.decreases-loop-change
decreases-loop-change l = length l.journal.items

-- The records so far are added.
use Rattle.std.proofs.Common.{◌≡◌, List}
use Rattle.kt_cell.specs.Losses.{Added}
use Rattle.kt_cell.specs.Standing.{StandsFor}
use Rattle.kt_fold.proofs.FoldLemmas.{HasAdded, front_added}
use Rattle.kt_fold.proofs.adding.add_summaries.Given as goal

abbrev pub invariant-loop-entry : goal.invariant-loop-entry
invariant-loop-entry l = record {
  added : (history : List Added) → StandsFor history l.fn.cells → HasAdded history (front_added l.portfolio.rows l.summaries l.entry-index) l.cells;
  periods : l.cells.periods ≡ l.fn.cells.periods;
  samples : l.cells.samples ≡ l.fn.cells.samples;
}

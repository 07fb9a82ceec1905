-- The summaries so far are added.
use Rattle.std.proofs.Common.{◌≡◌, List, take}
use Rattle.std.specs.List.{flat_map}
use Rattle.kt_cell.specs.Losses.{Added}
use Rattle.kt_cell.specs.Standing.{StandsFor}
use Rattle.kt_fold.specs.Added.{summaries_added}
use Rattle.kt_fold.proofs.FoldLemmas.{HasAdded}
use Rattle.kt_fold.proofs.adding.add_block.Given as goal

abbrev pub invariant-loop-summaries : goal.invariant-loop-summaries
invariant-loop-summaries l = record {
  added : (history : List Added) → StandsFor history l.fn.cells → HasAdded history (flat_map (summaries_added l.portfolio.rows) (take l.summaries-index l.block.summaries)) l.cells;
  periods : l.cells.periods ≡ l.fn.cells.periods;
  samples : l.cells.samples ≡ l.fn.cells.samples;
}

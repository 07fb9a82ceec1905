-- The blocks so far are added, and what is left of the ready rows is made for the others.
use Rattle.std.proofs.Common.{◌≡◌, List, drop, take}
use Rattle.kt_cell.specs.Losses.{Added}
use Rattle.kt_cell.specs.Standing.{StandsFor}
use Rattle.kt_fold.specs.Added.{blocks_added}
use Rattle.kt_fold.specs.ReadyParts.{AreMadeFor, IsReadyBlock}
use Rattle.kt_fold.proofs.FoldLemmas.{HasAdded}
use Rattle.kt_fold.proofs.fold.add_blocks.Given as goal

abbrev pub invariant-loop-place : goal.invariant-loop-place
invariant-loop-place l = record {
  added : (history : List Added) → StandsFor history l.fn.cells → HasAdded history (blocks_added l.portfolio.rows (take l.place l.blocks)) l.cells;
  periods : l.cells.periods ≡ l.fn.cells.periods;
  samples : l.cells.samples ≡ l.fn.cells.samples;
  ready : AreMadeFor IsReadyBlock l.ready (drop l.place l.blocks);
}

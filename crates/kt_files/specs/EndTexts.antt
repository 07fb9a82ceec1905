-- The texts at the end of a run.
-- The rules: docs/OUTPUTS.md, "Files of a run".
use Rattle.std.specs.Prelude.{List, All}
use Rattle.kt_curve.specs.SetsOfCurves.{AreSomeCurves}
use Rattle.kt_files.specs.Endings.{AreEndings}
use Rattle.kt_files.specs.declared.endings.Endings.{Endings}
use Rattle.kt_cell.specs.Losses.{Added}
use Rattle.kt_tables.specs.Lookups.{return_periods_of}

-- the cells are those of all records that were added, and the curves are of these cells, at the return periods of the rows
pub record AreEndTexts (history : List Added) (texts : Endings) : Type 0 where
  pub ends : AreEndings history texts.portfolio.now.rows texts.cells.now
  pub curves : All (AreSomeCurves texts.cells.now (return_periods_of texts.portfolio.now.rows)) texts.curves.now

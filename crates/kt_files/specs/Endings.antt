-- What the tables at the end of a run are told by.
-- The rules: docs/OUTPUTS.md, "Files of a run".
use Rattle.std.specs.Prelude.{◌≡◌, ℕ, List, Result, Vec, All, IfOk}
use Rattle.std.specs.declared.alloc.Global.{Global}
use Rattle.kt_curve.specs.SetsOfCurves.{AreSomeCurves, KeptCurves}
use Rattle.kt_cell.specs.Losses.{Added}
use Rattle.kt_cell.specs.Standing.{KeptCells, StandsFor}
use Rattle.kt_rec.specs.Rows.{Rows}

-- the cells are those of all records that were added, over the periods of the rows
pub record AreEndings (history : List Added) (rows : Rows) (cells : KeptCells) : Type 0 where
  pub stands : StandsFor history cells
  pub periods : cells.periods ≡ rows.periods

-- what a hand has made is what curves of these cells share, at these return periods
abbrev pub AreHandCurves : {E : Type 0} → KeptCells → List ℕ → Result (Vec KeptCurves Global) E → Type 0
AreHandCurves kept returns hand = IfOk hand (λ made. All (AreSomeCurves kept returns) made.items)

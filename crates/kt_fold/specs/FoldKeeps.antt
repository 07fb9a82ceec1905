-- What a fold keeps of a part.
-- The rules: docs/ARCHITECTURE.md, "A run of all stages".
use Rattle.std.specs.Prelude.{◌≡◌, ◌⊎◌, ◌≤◌, ℕ, true, List, [], ◌∷◌, ◌++◌, take, Option, Some, None, Result, Ok, Err}
use Rattle.kt_cell.specs.Standing.{KeptCells}
use Rattle.kt_keys.specs.Refusals.{is_loaded}
use Rattle.kt_rec.specs.declared.table.Table.TheVariants.{Occurrence}
use Rattle.kt_tables.specs.Portfolio.{PortfolioRows}
use Rattle.std.specs.List.{AllByRecursion}
use Rattle.kt_fold.specs.Folds.{FoldState, IsGoodPart, with_blocks}
use Rattle.kt_fold.specs.declared.fold.BlockStop.{BlockStop}
use Rattle.kt_fold.specs.declared.fold.FoldStop.{FoldStop}
use Rattle.kt_fold.specs.declared.fold.FoldStop.TheVariants as stop
use Rattle.kt_fold.specs.declared.part.PartBlock.{PartBlock}
use Rattle.kt_fold.specs.declared.part.RefusedRow.{RefusedRow}

-- what every fold keeps: the occurrences are loaded, its cells are of their periods, and of 1 to 1,000 samples, and the parts that
-- it keeps have records of a stream with as many
pub record IsFold (portfolio : PortfolioRows) (samples : ℕ) (cells : KeptCells) (kept : List PartBlock) : Type 0 where
  pub loaded : is_loaded portfolio.need 0 Occurrence ≡ true
  pub periods : cells.periods ≡ portfolio.rows.periods
  pub same : samples ≡ cells.samples
  pub some : 1 ≤ cells.samples
  pub few : cells.samples ≤ 1000
  pub good : AllByRecursion (IsGoodPart cells.samples) kept

-- the part is kept behind the others, and all else is as it was
abbrev pub with_part : FoldState → PartBlock → FoldState
with_part fold part = record { rows = fold.rows; cells = fold.cells; kept = fold.kept ++ part ∷ [] }

-- a whole part is kept, or memory is wanting, and the fold is as it was
abbrev pub KeepsPart : FoldState → PartBlock → Option RefusedRow → Result (Unit {0}) FoldStop → FoldState → Type 0
KeepsPart old part None (Ok done) new = new ≡ with_part old part
KeepsPart old part (Some row) (Ok done) new = ⊥
KeepsPart old part refused (Err stop.OutOfMemory) new = new ≡ old
KeepsPart old part None (Err (stop.Row row)) new = ⊥
KeepsPart old part (Some refused) (Err (stop.Row row)) new = (row ≡ refused) × (new ≡ with_part old part)
KeepsPart old part refused (Err (stop.Cell event why)) new = ⊥

abbrev pub KeepsWhole : FoldState → PartBlock → Result (Unit {0}) FoldStop → FoldState → Type 0
KeepsWhole old part answer new = KeepsPart old part part.refused answer new

-- the front of a part is kept and the stop is handed on, or memory is wanting, and the fold is as it was
abbrev pub KeepsFront : FoldState → PartBlock → BlockStop → FoldStop → FoldState → Type 0
KeepsFront old part at answer new = ((answer ≡ at.stop) × (new ≡ with_part old (with_blocks (take at.place part.blocks) part))) ⊎ ((answer ≡ stop.OutOfMemory) × (new ≡ old))

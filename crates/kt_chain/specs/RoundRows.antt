-- The rows that the parts of a round add to a file.
-- The rules: docs/OUTPUTS.md, "Files of a run".
use Rattle.std.specs.Prelude.{◌≤◌, ℕ, List, map}
use Rattle.std.specs.List.{AllByRecursion, flat_map}
use Rattle.kt_files.specs.Parts.{block_text}
use Rattle.kt_files.specs.declared.file.OutputFile.{OutputFile}
use Rattle.kt_files.specs.declared.made.FileRows.{FileRows}
use Rattle.kt_rec.specs.Rows.{Rows}
use Rattle.kt_fold.specs.Folds.{IsGoodPart}
use Rattle.kt_fold.specs.declared.part.PartBlock.{PartBlock}

-- the parts of a round, with the samples and the rows by which their rows are made, and what was made with the first of them
pub record PartRows : Type 0 where
  pub samples : ℕ
  pub rows : Rows
  pub parts : List PartBlock
  pub made : List (List FileRows)

-- parts whose rows can be made
pub record AreGoodParts (samples : ℕ) (parts : List PartBlock) : Type 0 where
  pub some : 1 ≤ samples
  pub few : samples ≤ 1000
  pub each : AllByRecursion (IsGoodPart samples) parts

-- what a part adds to a file
abbrev pub part_text : PartRows → OutputFile → PartBlock → List ℕ
part_text made file part = flat_map (block_text made.samples made.rows file) part.blocks

-- what each part adds to a file
abbrev pub pieces_of_parts : PartRows → OutputFile → List (List ℕ)
pieces_of_parts made file = map (part_text made file) made.parts

-- The rows that blocks add to files, made before they are written.
-- The rules: docs/OUTPUTS.md, "Files of a run".
use Rattle.std.specs.Prelude.{◌≡◌, ℕ, List, All}
use Rattle.std.specs.List.{flat_map}
use Rattle.kt_block.specs.declared.block.EventBlock.{EventBlock}
use Rattle.kt_files.specs.Parts.{block_text}
use Rattle.kt_files.specs.declared.made.FileRows.{FileRows}
use Rattle.kt_rec.specs.Rows.{Rows}

-- rows that were made of blocks for a file: they are what the blocks add to it
abbrev pub IsRowsOf : ℕ → Rows → List EventBlock → FileRows → Type 0
IsRowsOf samples rows blocks made = made.text ≡ flat_map (block_text samples rows made.file) blocks

-- so are those of each file
abbrev pub AreRowsOf : ℕ → Rows → List EventBlock → List FileRows → Type 0
AreRowsOf samples rows blocks made = All (IsRowsOf samples rows blocks) made

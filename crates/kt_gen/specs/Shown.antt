-- Of files that were made, the lines that are shown are those of their texts.
-- The rules: docs/GENERATOR.md, "What is shown of a run".
use Rattle.std.specs.Prelude.{◌≡◌, ℕ, List, map}
use Rattle.std.specs.List.{flat_map}
use Rattle.kt_out.specs.NamedFiles.{File, FileMap}
use Rattle.kt_ends.specs.Ending.{AllMade}
use Rattle.kt_outputs.specs.Names.{AreDistinct}
use Rattle.kt_gen.specs.FileLines.{file_line, file_lines}

-- the names of some files
abbrev pub names_of : List File → List (List ℕ)
names_of files = map (λ file. file.name) files

-- a line for each of some files
unfoldable pub lines_of_files : List File → List ℕ
lines_of_files files = flat_map (λ file. file_line file.name file.bytes) files

-- where files of distinct names were made, their names are shown with the lines of their texts, whatever was there before
abbrev pub MadeFilesAreShown : Type 0
MadeFilesAreShown = (wanted : List File) (start now : FileMap) → AreDistinct (names_of wanted) → AllMade wanted start now → file_lines now (names_of wanted) ≡ lines_of_files wanted

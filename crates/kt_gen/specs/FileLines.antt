-- What a run of a generated set shows of its output files: a line for each.
-- The rules: docs/GENERATOR.md, "What is shown of a run".
use Rattle.std.specs.Prelude.{ℕ, List, [], ◌∷◌, ◌++◌, length, Option, None, Some}
use Rattle.std.specs.List.{flat_map}
use Rattle.kt_counted.specs.Counts.{line_count}
use Rattle.kt_money.specs.NumberText.{count_text}
use Rattle.kt_out.specs.NamedFiles.{FileMap}

-- the line of a file: its name, how many lines it has and how many bytes, with blanks between
abbrev pub file_line : List ℕ → List ℕ → List ℕ
file_line name text = name ++ (32 ∷ count_text (line_count text)) ++ (32 ∷ count_text (length text)) ++ 10 ∷ []

-- that of a name; none where it stands for nothing
abbrev pub line_of : List ℕ → Option (List ℕ) → List ℕ
line_of name None = []
line_of name (Some text) = file_line name text

-- the lines of some names, in their order
unfoldable pub file_lines : FileMap → List (List ℕ) → List ℕ
file_lines files names = flat_map (λ name. line_of name (files name)) names

-- The rows of a CSV text, as a table of a fixed number of columns sees them.
-- The rule: docs/TABLES.md, "Texts of tables".
use Rattle.std.specs.Prelude.{◌≡◌, ℕ, ◌+◌, ◌==◌, Bool, List, [], ◌∷◌, ◌++◌, length, drop, nat_lt, if◌then◌else◌, Option, Some, None, slice_index_or}
use Rattle.std.specs.List.{prefix_len, AllByRecursion}
use Rattle.csv.specs.Writing.{default_writer, row_text}
use Rattle.csv.specs.Reading.{records, default_config, strip_bom}

-- all records of a text but the first, which is the heading
abbrev pub csv_rows : List ℕ → List (List (List ℕ))
csv_rows text = drop 1 (records default_config (strip_bom text))

-- a row has as many fields as the table has columns
abbrev pub has_width : ℕ → List (List ℕ) → Bool
has_width columns row = length row == columns

-- the number of the first row that has another number of fields, counted from 1
abbrev pub first_ragged : ℕ → List (List (List ℕ)) → Option ℕ
first_ragged columns rows =
    let even = prefix_len (has_width columns) rows in
    if nat_lt even (length rows) then Some (even + 1) else None

-- each row has as many fields as the table has columns
abbrev pub AreEven : ℕ → List (List (List ℕ)) → Type 0
AreEven columns rows = AllByRecursion (λ row. length row ≡ columns) rows

-- the field of a row and a column, both counted from 0
abbrev pub cell : List (List (List ℕ)) → ℕ → ℕ → List ℕ
cell rows row column = slice_index_or (slice_index_or rows row []) column []

-- the text of rows, each as csv writes it
unfoldable pub rows_text : List (List (List ℕ)) → List ℕ
rows_text [] = []
rows_text (row ∷ rows) = row_text default_writer row ++ rows_text rows

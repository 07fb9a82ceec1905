-- Why the fields of a text are not given.
-- The rules: docs/TABLES.md, "Texts of tables", "The first bad place".
use Rattle.std.specs.Prelude.{◌≡◌, ℕ, List, Some}
use Rattle.kt_text.specs.Rows.{first_ragged}
use Rattle.kt_text.specs.declared.columns.FieldStop.{FieldStop}
use Rattle.kt_text.specs.declared.columns.FieldStop.TheVariants.{Columns, OutOfMemory}

-- a stop of columns names the first row with another number of fields; want of memory may come at any text
abbrev pub Explains : ℕ → List (List (List ℕ)) → FieldStop → Type 0
Explains columns rows (Columns row) = first_ragged columns rows ≡ Some row
Explains columns rows OutOfMemory = Unit {0}

-- The file of a table that is judged, and its lines.
-- The rules: docs/COMMANDS.md, "tobin and tocsv".
use Rattle.std.specs.Prelude.{◌≡◌, ◌<◌, ◌/◌, ℕ, List, [], length, Result, Ok, Err}
use Rattle.kt_cells.specs.Records.{record_rows, record_width, record_count}
use Rattle.kt_rec.specs.declared.kind.Kind.{Kind}
use Rattle.kt_cells.specs.declared.stop.TableStop.{TableStop}

-- what is read, and nothing where it is refused
abbrev pub rows_or_none : Result (List (List ℕ)) TableStop → List (List ℕ)
rows_or_none (Ok rows) = rows
rows_or_none (Err stop) = []

-- records of so many columns and bytes, all of which are good
pub record AreLines (columns : ℕ) (kinds : List Kind) (width : ℕ) (records : List ℕ) : Type 0 where
  pub few : columns < 100
  pub some : 0 < columns
  pub columns_are : length kinds ≡ columns
  pub wide : 0 < width
  pub is_width : width ≡ record_width kinds
  pub rows : List (List ℕ)
  pub are_read : record_rows 1 kinds records ≡ Ok rows
  pub counted : length rows ≡ length records / width

-- a file was read, and so were its records
pub record IsJudged (kinds : List Kind) (records : List ℕ) (read : Result (ℕ × List (List ℕ)) TableStop) : Type 0 where
  pub extra : ℕ
  pub rows : List (List ℕ)
  pub are_read : read ≡ Ok (extra, rows)
  pub are_rows : record_rows 1 kinds records ≡ Ok rows
  pub counted : length rows ≡ record_count kinds records

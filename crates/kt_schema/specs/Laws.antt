-- What stands in a file is read back.
-- The rule: docs/TABLES.md, "Back again".
use Rattle.std.specs.Prelude.{◌≡◌, ◌≢◌, ◌≤◌, ℕ, List, Ok}
use Rattle.kt_rec.specs.declared.table.Table.{Table}
use Rattle.kt_rec.specs.declared.table.Table.TheVariants as table
use Rattle.kt_cells.specs.Ranges.{AreRows, AreInOrder}
use Rattle.kt_schema.specs.Conversions.{bin, bin_csv, bin_rows, canon, csv_rows}
use Rattle.kt_schema.specs.Tables.{is_ordered, kinds_of, least_extra, most_extra}

-- the file of rows in range, whose header ends with a number in range, gives both back
abbrev pub FilesAreReadBack : Type 0
FilesAreReadBack = (t : Table) (extra : ℕ) (rows : List (List ℕ)) → t ≢ table.Footprint → AreRows (kinds_of t) rows → least_extra t ≤ extra → extra ≤ most_extra t
    → bin_rows t (bin t extra rows) ≡ Ok (extra, rows)

-- the canonical text of rows in range gives them back; the events of footprint rows never fall
abbrev pub TextsAreReadBack : Type 0
TextsAreReadBack = (t : Table) (rows : List (List ℕ)) → t ≢ table.FootprintIdx → AreRows (kinds_of t) rows → AreInOrder (is_ordered t) 0 rows → csv_rows t (canon t rows) ≡ Ok rows

-- an accepted text, made a file and a text again, is the canonical text of its rows
abbrev pub TextsGoRound : Type 0
TextsGoRound = (t : Table) (extra : ℕ) (text : List ℕ) (rows : List (List ℕ)) → t ≢ table.Footprint → t ≢ table.FootprintIdx → least_extra t ≤ extra → extra ≤ most_extra t
    → csv_rows t text ≡ Ok rows → bin_csv t (bin t extra rows) ≡ Ok (canon t rows)

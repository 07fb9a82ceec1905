-- What stands in the files and texts of the tables.
-- The rules: docs/TABLES.md, "Texts of tables", "Files of tables".
use Rattle.std.specs.Prelude.{ℕ, Bool, true, false, List, [], ◌++◌, drop, map, if◌then◌else◌, Result, Ok}
use Rattle.kt_rec.specs.TableNames.{number_of}
use Rattle.kt_rec.specs.declared.table.Table.{Table}
use Rattle.kt_rec.specs.declared.table.Table.TheVariants as table
use Rattle.kt_cells.specs.Header.{header_extra, header_bytes, header_width}
use Rattle.kt_rec.specs.Lines.{line}
use Rattle.kt_cells.specs.Lines.{rows_lines}
use Rattle.kt_cells.specs.Reading.{and_then}
use Rattle.kt_cells.specs.Records.{record_rows, records_bytes}
use Rattle.kt_cells.specs.Texts.{text_rows}
use Rattle.kt_rec.specs.declared.kind.Kind.{Kind}
use Rattle.kt_cells.specs.declared.stop.TableStop.{TableStop}
use Rattle.kt_schema.specs.Index.{index_of}
use Rattle.kt_schema.specs.Tables.{has_header, kinds_of, heading_of, least_extra, most_extra}

-- the header of a file that has one
abbrev pub header_part : Bool → ℕ → ℕ → List ℕ
header_part header number extra = if header then header_bytes number extra else []

-- a file: its header and its records
abbrev pub file_bytes : Bool → ℕ → ℕ → List Kind → List (List ℕ) → List ℕ
file_bytes header number extra kinds rows = header_part header number extra ++ records_bytes kinds rows

-- the footprint file leaves the event of each row out
abbrev pub footprint_bytes : List (List ℕ) → List ℕ
footprint_bytes rows = header_bytes 4 0 ++ records_bytes (drop 1 (kinds_of table.Footprint)) (map (drop 1) rows)

-- the index of the footprint file
abbrev pub index_bytes : List (List ℕ) → List ℕ
index_bytes rows = records_bytes (kinds_of table.FootprintIdx) (index_of rows)

-- the file of the rows of a table, whose header ends with `extra`
abbrev pub bin : Table → ℕ → List (List ℕ) → List ℕ
bin table.Footprint extra rows = footprint_bytes rows
bin t extra rows = file_bytes (has_header t) (number_of t) extra (kinds_of t) rows

-- the rows of the text of a table. Those of the index are made from the text of the footprint, whose events never fall
abbrev pub csv_rows : Table → List ℕ → Result (List (List ℕ)) TableStop
csv_rows table.Footprint text = text_rows true (kinds_of table.Footprint) text
csv_rows table.FootprintIdx text = and_then (text_rows true (kinds_of table.Footprint) text) (λ rows. Ok (index_of rows))
csv_rows t text = text_rows false (kinds_of t) text

-- the file of the text of a table
abbrev pub csv_bin : Table → ℕ → List ℕ → Result (List ℕ) TableStop
csv_bin t extra text = and_then (csv_rows t text) (λ rows. Ok (bin t extra rows))

-- the number that the header of a file ends with, 0 where it has no header
abbrev pub extra_of : Bool → ℕ → ℕ → ℕ → List ℕ → Result ℕ TableStop
extra_of true number least most bytes = header_extra number least most bytes
extra_of false number least most bytes = Ok 0

-- what stands behind the header of a file
abbrev pub body_of : Bool → List ℕ → List ℕ
body_of true bytes = drop header_width bytes
body_of false bytes = bytes

-- the rows of a file, and the number that its header ends with
abbrev pub body_rows : Bool → ℕ → ℕ → ℕ → ℕ → List Kind → List ℕ → Result (ℕ × List (List ℕ)) TableStop
body_rows header number least most first kinds bytes =
    and_then (extra_of header number least most bytes) (λ extra.
    and_then (record_rows first kinds (body_of header bytes)) (λ rows. Ok (extra, rows)))

-- the rows of the file of a table, and the number that its header ends with. A record of the footprint begins with the
-- second column
abbrev pub bin_rows : Table → List ℕ → Result (ℕ × List (List ℕ)) TableStop
bin_rows table.Footprint bytes = body_rows true 4 0 0 2 (drop 1 (kinds_of table.Footprint)) bytes
bin_rows t bytes = body_rows (has_header t) (number_of t) (least_extra t) (most_extra t) 1 (kinds_of t) bytes

-- the canonical text of the rows of a table
abbrev pub canon : Table → List (List ℕ) → List ℕ
canon t rows = line (heading_of t) ++ rows_lines (kinds_of t) rows

-- the text of the file of a table
abbrev pub bin_csv : Table → List ℕ → Result (List ℕ) TableStop
bin_csv t bytes = and_then (bin_rows t bytes) (λ file. Ok (canon t file.1))

-- What is written is read back.
-- The rule: docs/TABLES.md, "Back again".
use Rattle.std.specs.Prelude.{◌≡◌, ℕ, ◌+◌, ◌*◌, ◌^◌, take, drop, ◌<◌, ◌≤◌, Bool, false, List, ◌∷◌, ◌++◌, Ok, length}
use Rattle.std.specs.List.{AllByRecursion}
use Rattle.csv.specs.Reading.{strip_bom}
use Rattle.csv.specs.Writing.{default_writer, needs_quotes}
use Rattle.kt_cells.specs.Header.{header_extra, header_bytes}
use Rattle.kt_rec.specs.Lines.{line}
use Rattle.kt_cells.specs.Lines.{rows_lines}
use Rattle.kt_cells.specs.Ranges.{AreRows, AreInOrder}
use Rattle.kt_cells.specs.Records.{record_rows, record_width, records_bytes}
use Rattle.kt_cells.specs.Texts.{text_rows}
use Rattle.kt_rec.specs.declared.kind.Kind.{Kind}

-- rows in range are read back from their records
abbrev pub RecordsAreReadBack : Type 0
RecordsAreReadBack = (first : ℕ) (kinds : List Kind) (rows : List (List ℕ)) → 0 < length kinds → AreRows kinds rows → record_rows first kinds (records_bytes kinds rows) ≡ Ok rows

-- a header is read back, whatever follows it
abbrev pub HeadersAreReadBack : Type 0
HeadersAreReadBack = (number least most extra : ℕ) (rest : List ℕ) → number < 2 ^ 32 → least ≤ extra → extra ≤ most → most < 2 ^ 32 → header_extra number least most (header_bytes number extra ++ rest) ≡ Ok extra

-- a field that csv writes without quotes
abbrev pub IsPlain : List ℕ → Type 0
IsPlain field = needs_quotes default_writer field ≡ false

-- rows in range and in order are read back from their lines under a heading of plain names; a byte order mark in front
-- would be taken off
abbrev pub LinesAreReadBack : Type 0
LinesAreReadBack = (ordered : Bool) (kinds : List Kind) (name : List ℕ) (names : List (List ℕ)) (rows : List (List ℕ)) → 0 < length kinds → AreRows kinds rows → AreInOrder ordered 0 rows
    → 0 < length name → AllByRecursion IsPlain (name ∷ names)
    → strip_bom (line (name ∷ names) ++ rows_lines kinds rows) ≡ line (name ∷ names) ++ rows_lines kinds rows
    → text_rows ordered kinds (line (name ∷ names) ++ rows_lines kinds rows) ≡ Ok rows

-- the rows of a text are in range, and in order where they are ordered
abbrev pub TextsAreInRange : Type 0
TextsAreInRange = (ordered : Bool) (kinds : List Kind) (text : List ℕ) (rows : List (List ℕ)) → 0 < length kinds → text_rows ordered kinds text ≡ Ok rows → AreRows kinds rows × AreInOrder ordered 0 rows

-- the records of a slice that begins and ends with whole ones give those rows
abbrev pub SlicesGiveSlices : Type 0
SlicesGiveSlices = (first : ℕ) (kinds : List Kind) (bytes : List ℕ) (rows : List (List ℕ)) (from count : ℕ) → 0 < length kinds → record_rows first kinds bytes ≡ Ok rows → from + count ≤ length rows
    → record_rows first kinds (take (count * record_width kinds) (drop (from * record_width kinds) bytes)) ≡ Ok (take count (drop from rows))

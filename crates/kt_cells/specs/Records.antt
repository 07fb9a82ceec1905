-- Records of numbers, little-endian: how bytes are cut into them, and how they are written.
-- The rule: docs/TABLES.md, "Files of tables".
use Rattle.std.specs.Prelude.{ℕ, zero, suc, ◌+◌, ◌/◌, ◌%◌, ◌==◌, false, List, [], ◌∷◌, ◌++◌, length, take, drop, if◌then◌else◌, Result, Ok, Err}
use Rattle.byteorder.specs.Endian.{little_number, little_bytes}
use Rattle.kt_rec.specs.Kinds.{width, in_range}
use Rattle.kt_rec.specs.declared.kind.Kind.{Kind}
use Rattle.kt_cells.specs.Reading.{and_then, table_rows}
use Rattle.kt_rec.specs.declared.cause.Cause.{Cause}
use Rattle.kt_cells.specs.declared.stop.TableStop.{TableStop}
use Rattle.kt_cells.specs.declared.stop.TableStop.TheVariants.{CutRecord}

-- how many bytes a record takes
unfoldable pub record_width : List Kind → ℕ
record_width [] = 0
record_width (kind ∷ kinds) = width kind + record_width kinds

-- the fields at the front of some bytes
unfoldable pub record_fields : List Kind → List ℕ → List (List ℕ)
record_fields [] bytes = []
record_fields (kind ∷ kinds) bytes = take (width kind) bytes ∷ record_fields kinds (drop (width kind) bytes)

-- the fields of so many records
unfoldable pub records_in : List Kind → ℕ → List ℕ → List (List (List ℕ))
records_in kinds zero bytes = []
records_in kinds (suc count) bytes = record_fields kinds bytes ∷ records_in kinds count (drop (record_width kinds) bytes)

-- how many whole records there are
abbrev pub record_count : List Kind → List ℕ → ℕ
record_count kinds bytes = length bytes / record_width kinds

-- the fields of all whole records
abbrev pub whole_records : List Kind → List ℕ → List (List (List ℕ))
whole_records kinds bytes = records_in kinds (record_count kinds bytes) bytes

-- the value that the bytes of a field give
abbrev pub field_value : Kind → List ℕ → Result ℕ Cause
field_value kind field = in_range kind (little_number (length field) field)

-- the bytes of a record
unfoldable pub record_bytes : List Kind → List ℕ → List ℕ
record_bytes [] values = []
record_bytes (kind ∷ kinds) [] = []
record_bytes (kind ∷ kinds) (value ∷ values) = little_bytes (width kind) value ++ record_bytes kinds values

-- the bytes of records, one after the other
unfoldable pub records_bytes : List Kind → List (List ℕ) → List ℕ
records_bytes kinds [] = []
records_bytes kinds (row ∷ rows) = record_bytes kinds row ++ records_bytes kinds rows

-- the rows that records give; the bytes behind the last whole record would begin one more
unfoldable pub record_rows : ℕ → List Kind → List ℕ → Result (List (List ℕ)) TableStop
record_rows first kinds bytes =
    and_then (table_rows field_value false first kinds 0 1 (whole_records kinds bytes))
    (λ rows. if length bytes % record_width kinds == 0 then Ok rows else Err (CutRecord (record_count kinds bytes + 1)))

-- the same behind so many records: theirs are the numbers before
unfoldable pub records_behind : ℕ → ℕ → List Kind → List ℕ → Result (List (List ℕ)) TableStop
records_behind before first kinds bytes =
    and_then (table_rows field_value false first kinds 0 (before + 1) (whole_records kinds bytes))
    (λ rows. if length bytes % record_width kinds == 0 then Ok rows else Err (CutRecord (before + record_count kinds bytes + 1)))

-- The index of the footprint: where the records of each event stand.
-- The rule: docs/TABLES.md, "Footprint".
use Rattle.std.specs.Prelude.{ℕ, ◌+◌, ◌==◌, List, [], ◌∷◌, if◌then◌else◌, slice_index_or, Option, None, Some}
use Rattle.kt_schema.specs.declared.index.OpenEntry.{OpenEntry}

-- a record of the footprint takes so many bytes
abbrev pub footprint_width : ℕ
footprint_width = 12

-- the first of them stands behind the header
abbrev pub first_offset : ℕ
first_offset = 16

-- the event of a row
abbrev pub event_of : List ℕ → ℕ
event_of row = slice_index_or row 0 0

-- a row of the index
abbrev pub index_row : ℕ → ℕ → ℕ → List ℕ
index_row event offset size = event ∷ offset ∷ size ∷ []

-- the index from a place on: the records of an event, so far of this size, and those of the rows that follow
unfoldable pub index_from : ℕ → ℕ → ℕ → List (List ℕ) → List (List ℕ)
index_from event offset size [] = index_row event offset size ∷ []
index_from event offset size (row ∷ rows) =
    if event_of row == event then index_from event offset (size + footprint_width) rows
    else index_row event offset size ∷ index_from (event_of row) (offset + size) footprint_width rows

-- the index of footprint rows: a row for each event, with the place of its first record and the size of them all
unfoldable pub index_of : List (List ℕ) → List (List ℕ)
index_of [] = []
index_of (row ∷ rows) = index_from (event_of row) first_offset footprint_width rows

-- the index of rows behind those whose last row is this, or of all rows where there was none
abbrev pub index_behind : Option OpenEntry → List (List ℕ) → List (List ℕ)
index_behind None rows = index_of rows
index_behind (Some entry) rows = index_from entry.event entry.offset entry.size rows

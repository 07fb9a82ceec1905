-- The footprint rows of events, as they stand in the footprint's file.
-- The rules: docs/TABLES.md, "Footprint rows of an event".
use Rattle.std.specs.Prelude.{◌≡◌, ◌+◌, ◌≤◌, ℕ, zero, suc, ◌/◌, ◌%◌, List, [], ◌∷◌, length, drop, map, Option, Some, None, IfSome, IsSomeAnd, ⊤}
use Rattle.byteorder.specs.Endian.{little_number}
use Rattle.kt_out.specs.NamedFiles.{FileMap}
use Rattle.kt_rec.specs.Rows.{Rows}
use Rattle.kt_rec.specs.declared.hazard.FootRow.{FootRow}
use Rattle.kt_rec.specs.declared.table.Table.TheVariants as table
use Rattle.kt_tables.specs.Lookups.{place_in}
use Rattle.kt_tables.specs.declared.place.Place.{Place}
use Rattle.kt_load.specs.FileNames.{file_name_of, table_at}

-- the name of the footprint's file
abbrev pub footprint_name : List ℕ
footprint_name = file_name_of (table_at 0 table.Footprint)

-- the row at the front of the bytes: three numbers of four bytes
abbrev pub foot_row : List ℕ → FootRow
foot_row bytes = record { areaperil = little_number 4 bytes; intensity = little_number 4 (drop 4 bytes); prob = little_number 4 (drop 8 bytes) }

-- so many rows at the front of the bytes, one after the other
unfoldable pub foot_rows_in : ℕ → List ℕ → List FootRow
foot_rows_in zero bytes = []
foot_rows_in (suc n) bytes = foot_row bytes ∷ foot_rows_in n (drop 12 bytes)

-- the rows at a place of the file
abbrev pub rows_at : List ℕ → Option Place → List FootRow
rows_at bytes None = []
rows_at bytes (Some place) = foot_rows_in (place.size / 12) (drop place.at bytes)

-- the rows of an event: none where the index has no such event
abbrev pub event_rows : Rows → List ℕ → ℕ → List FootRow
event_rows rows bytes event = rows_at bytes (place_in rows event)

-- an event with its rows
pub record EventRows : Type 0 where
  pub event : ℕ
  pub rows : List FootRow

-- an event with its rows, as they stand in the footprint's file
abbrev pub event_with_rows : Rows → List ℕ → ℕ → EventRows
event_with_rows rows bytes event = record { event = event; rows = event_rows rows bytes event }

-- the ids of events with their rows
abbrev pub ids_of : List EventRows → List ℕ
ids_of given = map (λ one. one.event) given

-- where files are known, this holds of the bytes of the footprint's file
abbrev pub OnFootprint : Option FileMap → (List ℕ → Type 0) → Type 0
OnFootprint held holds = IfSome held (λ files. IfSome (files footprint_name) holds)

-- the footprint's file has so many bytes, where files are known
abbrev pub HasFootprint : Option FileMap → ℕ → Type 0
HasFootprint None size = ⊤
HasFootprint (Some files) size = IsSomeAnd (files footprint_name) (λ bytes. length bytes ≡ size)

-- the place of an event lies in a footprint's file of so many bytes, as whole rows
pub record LiesWithin (size : ℕ) (place : Place) : Type 0 where
  pub whole : place.size % 12 ≡ 0
  pub few : place.size ≤ 1200000
  pub within : place.at + place.size ≤ size

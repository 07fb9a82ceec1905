-- The footprint file and its index together.
-- The rule: docs/TABLES.md, "Footprint".
use Rattle.std.specs.Prelude.{◌≡◌, ◌≤◌, ℕ, ◌+◌, ◌-◌, ◌*◌, ◌/◌, ◌%◌, List, [], ◌∷◌, ◌++◌, length, map, take, drop, Result, Ok}
use Rattle.kt_rec.specs.declared.hazard.FootprintIdx.{FootprintIdx}
use Rattle.kt_rec.specs.declared.table.Table.TheVariants.{Footprint}
use Rattle.kt_cells.specs.Ranges.{AreRows}
use Rattle.kt_cells.specs.Reading.{and_then}
use Rattle.kt_cells.specs.Records.{record_rows}
use Rattle.kt_cells.specs.declared.stop.TableStop.{TableStop}
use Rattle.kt_schema.specs.Conversions.{bin_rows, canon}
use Rattle.kt_schema.specs.Index.{footprint_width, first_offset}
use Rattle.kt_schema.specs.Tables.{kinds_of}

-- the most bytes that the records of an event may have
abbrev pub most_event_bytes : ℕ
most_event_bytes = 1200000

-- a row of the index that names whole records of a footprint file of so many bytes
pub record IsEntryOf (bytes : ℕ) (entry : FootprintIdx) : Type 0 where
  pub behind_header : first_offset ≤ entry.offset
  pub whole_place : (entry.offset - first_offset) % footprint_width ≡ 0
  pub whole_size : entry.size % footprint_width ≡ 0
  pub few : entry.size ≤ most_event_bytes
  pub within : entry.offset + entry.size ≤ bytes

-- the number of the first record of an entry, counted from 0
abbrev pub first_record : FootprintIdx → ℕ
first_record entry = (entry.offset - first_offset) / footprint_width

-- how many records an entry has
abbrev pub record_number : FootprintIdx → ℕ
record_number entry = entry.size / footprint_width

-- the records of an entry are among so many
pub record HasRecords (records : ℕ) (entry : FootprintIdx) : Type 0 where
  pub behind_header : first_offset ≤ entry.offset
  pub within : first_record entry + record_number entry ≤ records

-- the rows that some bytes give as records of the footprint file
pub record AreRecords (bytes : List ℕ) (rows : List (List ℕ)) : Type 0 where
  pub are_read : record_rows 2 (drop 1 (kinds_of Footprint)) bytes ≡ Ok rows
  pub in_range : AreRows (drop 1 (kinds_of Footprint)) rows
  pub room : length rows * footprint_width ≤ length bytes

-- the rows of an entry: its records, with its event in front
abbrev pub entry_rows : List (List ℕ) → FootprintIdx → List (List ℕ)
entry_rows rows entry = map (λ row. entry.event_id ∷ row) (take (record_number entry) (drop (first_record entry) rows))

-- the rows of all entries, in the order of the index
unfoldable pub indexed_rows : List (List ℕ) → List FootprintIdx → List (List ℕ)
indexed_rows rows [] = []
indexed_rows rows (entry ∷ index) = entry_rows rows entry ++ indexed_rows rows index

-- the text of a footprint file and its index
abbrev pub footprint_csv : List ℕ → List FootprintIdx → Result (List ℕ) TableStop
footprint_csv bytes index = and_then (bin_rows Footprint bytes) (λ file. Ok (canon Footprint (indexed_rows file.1 index)))

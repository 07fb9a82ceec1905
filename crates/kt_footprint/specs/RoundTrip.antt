-- A footprint comes back from its file and its index.
-- The rules: docs/TABLES.md, "Footprint".
use Rattle.std.specs.Prelude.{◌≡◌, ◌≤◌, ℕ, List, length, map, Ok}
use Rattle.std.specs.List.{AllByRecursion}
use Rattle.kt_rec.specs.declared.hazard.FootprintIdx.{FootprintIdx}
use Rattle.kt_rec.specs.declared.table.Table.TheVariants.{Footprint}
use Rattle.kt_schema.specs.Conversions.{bin, canon, csv_rows}
use Rattle.kt_schema.specs.Footprint.{IsEntryOf, footprint_csv, most_event_bytes}
use Rattle.kt_schema.specs.Index.{index_of}
use Rattle.kt_schema.specs.Rows.{footprint_idx_values}

-- no event has more records than one may have
abbrev pub AreFew : List FootprintIdx → Type 0
AreFew index = AllByRecursion (λ entry. entry.size ≤ most_event_bytes) index

-- the index names whole records of a file of so many bytes
abbrev pub AreEntries : ℕ → List FootprintIdx → Type 0
AreEntries bytes index = AllByRecursion (IsEntryOf bytes) index

-- of an accepted text: the index that is made of it names whole records of the file that is made of it, and both together give the
-- canonical text
abbrev pub FootprintsGoRound : Type 0
FootprintsGoRound = (text : List ℕ) (rows : List (List ℕ)) (index : List FootprintIdx) → csv_rows Footprint text ≡ Ok rows → map footprint_idx_values index ≡ index_of rows → AreFew index
    → AreEntries (length (bin Footprint 0 rows)) index × (footprint_csv (bin Footprint 0 rows) index ≡ Ok (canon Footprint rows))

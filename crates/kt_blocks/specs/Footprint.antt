-- The footprint file that is judged, and the events of its index.
-- The rules: docs/COMMANDS.md, "tobin and tocsv".
use Rattle.std.specs.Prelude.{◌≡◌, ◌-◌, ◌/◌, ℕ, List, length, drop, All, Ok}
use Rattle.kt_rec.specs.declared.hazard.FootprintIdx.{FootprintIdx}
use Rattle.kt_rec.specs.declared.table.Table.TheVariants.{Footprint}
use Rattle.kt_schema.specs.Conversions.{bin_rows}
use Rattle.kt_schema.specs.Footprint.{AreRecords, HasRecords}

-- records of the footprint file, among which are those of all entries of an index
pub record AreEvents (records : List ℕ) (index : List FootprintIdx) : Type 0 where
  pub rows : List (List ℕ)
  pub are : AreRecords records rows
  pub counted : length rows ≡ length records / 12
  pub have : All (HasRecords (length rows)) index

-- a footprint file was read
pub record IsJudgedFootprint (bytes : List ℕ) : Type 0 where
  pub extra : ℕ
  pub rows : List (List ℕ)
  pub are_read : bin_rows Footprint bytes ≡ Ok (extra, rows)
  pub are : AreRecords (drop 16 bytes) rows
  pub counted : length rows ≡ (length bytes - 16) / 12

-- Rows that are the same in the tables that are needed.
-- The rules: docs/TABLES.md.
use Rattle.std.specs.Prelude.{◌≡◌, ◌<◌, ◌&&◌, ℕ, nat_le, true}
use Rattle.kt_keys.specs.Refusals.{is_loaded}
use Rattle.kt_keys.specs.declared.need.Need.{Need}
use Rattle.kt_rec.specs.PlaceLaws.{of_base, of_stage}
use Rattle.kt_rec.specs.Places.{table_at}
use Rattle.kt_rec.specs.Rows.{Rows}
use Rattle.kt_rec.specs.TableNames.{IsTableId, number_of}
use Rattle.kt_rec.specs.declared.table.Table.{Table}
use Rattle.kt_rec.specs.declared.table.TableId.{TableId}
use Rattle.kt_subset.specs.SameTables.{SameTable}

-- the same is kept of each table that is needed, of the base and of each stage
abbrev pub HasSame : Need → Rows → Rows → Type 0
HasSame need rows other = (id : TableId) → IsTableId id → is_loaded need id.stage id.table ≡ true → SameTable id.stage id.table rows other

-- that of a table of the base
pub same_base : (need : Need) (rows other : Rows) → HasSame need rows other → (t : Table) → is_loaded need 0 t ≡ true → SameTable 0 t rows other
same_base need rows other has t = has (table_at 0 t) (of_base t)

-- and that of a financial table
pub same_stage : (need : Need) (rows other : Rows) → HasSame need rows other → (stage : ℕ) → stage < 10 → (t : Table) → (nat_le 9 (number_of t) && nat_le (number_of t) 11) ≡ true → is_loaded need stage t ≡ true → SameTable stage t rows other
same_stage need rows other has stage below t financial = has (table_at stage t) (of_stage stage below t financial)

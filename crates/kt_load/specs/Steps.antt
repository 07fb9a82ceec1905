-- What the tables keep while they are read one by one, whatever their files hold.
-- The rule: docs/TABLES.md, "Files".
use Rattle.std.specs.Prelude.{◌≡◌, ◌⊎◌, List, true, false, All}
use Rattle.kt_rec.specs.Ranges.{AreInRange, ArePeriods}
use Rattle.kt_rec.specs.Places.{row_count}
use Rattle.kt_rec.specs.Rows.{Rows}
use Rattle.kt_rec.specs.TableNames.{IsTableId, number_of}
use Rattle.kt_rec.specs.TableSet.{is_in}
use Rattle.kt_rec.specs.declared.table.TableId.{TableId}
use Rattle.kt_rec.specs.declared.table_set.TableSet.{TableSet}

-- a table that is not in the set has no row
abbrev pub NoneOutside : TableSet → Rows → Type 0
NoneOutside set rows = (id : TableId) → IsTableId id → is_in set id ≡ false → row_count rows id ≡ 0

-- What reading a table keeps: rows in range stay in range; a table that is in no set which has this one has no row if it
-- had none; a number of periods that is in range stays so, and it is behind the occurrences.
pub record KeepsRows (id : TableId) (old new : Rows) : Type 0 where
  pub in_range : AreInRange old → AreInRange new
  pub outside : (set : TableSet) → is_in set id ≡ true → NoneOutside set old → NoneOutside set new
  pub periods : ArePeriods old.periods ⊎ (number_of id.table ≡ 15) → ArePeriods new.periods

-- the number of periods is in range if the table is that of the occurrences and in the set
abbrev pub GivesPeriods : TableSet → Rows → TableId → Type 0
GivesPeriods set rows id = number_of id.table ≡ 15 → is_in set id ≡ true → ArePeriods rows.periods

-- What reading those of some tables that are in a set keeps: rows in range stay in range; a table outside the set has no row if
-- it had none; a number of periods that is in range stays so, and it is where the occurrences are among the tables and in the set.
pub record KeepsAll (set : TableSet) (ids : List TableId) (old new : Rows) : Type 0 where
  pub in_range : AreInRange old → AreInRange new
  pub outside : NoneOutside set old → NoneOutside set new
  pub periods : ArePeriods old.periods → ArePeriods new.periods
  pub read_periods : All (GivesPeriods set new) ids

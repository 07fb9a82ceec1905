-- Which tables a set has.
-- The rule: docs/TABLES.md, "Files".
use Rattle.std.specs.Prelude.{ℕ, ◌+◌, ◌-◌, ◌*◌, ◌==◌, ◌&&◌, Bool, true, false, replicate, slice_index_or, slice_set}
use Rattle.kt_rec.specs.TableNames.{number_of}
use Rattle.kt_rec.specs.declared.table.TableId.{TableId}
use Rattle.kt_rec.specs.declared.table_set.TableSet.{TableSet}

-- each table of the base and of a stage has a place of its own
abbrev pub place_of : TableId → ℕ
place_of id = id.stage * 16 + number_of id.table - 1

-- whether a table is in the set
abbrev pub is_in : TableSet → TableId → Bool
is_in set id = slice_index_or set.present (place_of id) false

-- whether two ids name one table
abbrev pub is_same : TableId → TableId → Bool
is_same one other = (one.stage == other.stage) && (number_of one.table == number_of other.table)

-- no table
abbrev pub no_tables : TableSet
no_tables = record { present = replicate 160 false }

-- a set with one table more
abbrev pub with_table : TableSet → TableId → TableSet
with_table set id = record { present = slice_set set.present (place_of id) true }

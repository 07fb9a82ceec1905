-- The numbers, names and files of the tables, and which tables a stage has.
-- The rules: docs/TABLES.md, "Tables", "Files".
use Rattle.std.specs.Prelude.{◌≡◌, ◌⊎◌, ◌≤◌, ℕ, List}
use Rattle.kt_rec.specs.Descriptions.{description}
use Rattle.kt_rec.specs.declared.table.Table.{Table}
use Rattle.kt_rec.specs.declared.table.TableId.{TableId}

-- the table's number
abbrev pub number_of : Table → ℕ
number_of t = (description t).number

-- the table's name
abbrev pub name_of : Table → List ℕ
name_of t = (description t).name

-- the table's file
abbrev pub file_of : Table → List ℕ
file_of t = (description t).file

-- a table of the base, or the programme, policy terms or profiles of a reinsurance stage
pub record IsTableId (id : TableId) : Type 0 where
  pub stages : id.stage ≤ 9
  pub financial : (id.stage ≡ 0) ⊎ ((9 ≤ number_of id.table) × (number_of id.table ≤ 11))

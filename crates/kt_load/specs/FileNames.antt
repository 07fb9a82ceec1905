-- The files of the tables.
-- The rules: docs/TABLES.md, "Files".
use Rattle.std.specs.Prelude.{ℕ, ◌==◌, List, ◌++◌, codes, take, drop, if◌then◌else◌}
pub use Rattle.kt_rec.specs.LoadOrder.{base_tables, each-is_table, load_order, stage_tables}
pub use Rattle.kt_rec.specs.Places.{table_at}
use Rattle.kt_rec.specs.TableNames.{file_of}
use Rattle.kt_rec.specs.declared.table.TableId.{TableId}

-- the digit of a stage, from 0 to 9
abbrev pub stage_digit : ℕ → List ℕ
stage_digit stage = take 1 (drop stage (codes "0123456789"))

-- the folder of a reinsurance stage: RI_ and its digit
abbrev pub stage_folder : ℕ → List ℕ
stage_folder stage = codes "RI_" ++ stage_digit stage ++ codes "/"

-- the file of a table: that of the base, or, in the folder of its stage, the one of the same name
abbrev pub file_name_of : TableId → List ℕ
file_name_of id = if id.stage == 0 then file_of id.table else stage_folder id.stage ++ drop 6 (file_of id.table)

-- A table with records of its shares, as contracts see it.
-- The rule: docs/FINANCIAL_MODULE.md, "Insured losses".
use Rattle.std.specs.Prelude.{List}
use Rattle.kt_stream.specs.declared.entry.LossRecord.{LossRecord}
use Rattle.kt_levels.specs.Row.{Shared}

-- the rows of a table, and the records
pub record TableRun : Type 0 where
  pub table : List Shared
  pub records : List LossRecord

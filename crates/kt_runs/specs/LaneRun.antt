-- Records of losses as contracts see them where they are kept by lanes.
-- The rule: docs/FINANCIAL_MODULE.md, "Insured losses".
use Rattle.std.specs.Prelude.{ℕ, List}
use Rattle.kt_stream.specs.declared.entry.LossRecord.{LossRecord}

-- how many losses a lane has, and the records that lanes stand for
pub record LaneRun : Type 0 where
  pub rows : ℕ
  pub records : List LossRecord

-- The places of the sums of a run.
-- The rule: docs/CALCULATION.md, "Summaries".
use Rattle.std.specs.Prelude.{ℕ, ◌+◌, ◌-◌, ◌%◌, ◌<◌, ◌≤◌, ◌^◌, List, All}
use Rattle.kt_stream.specs.declared.entry.LossRecord.{LossRecord}
use Rattle.kt_runs.specs.Adding.{AreInside}

-- the sums of a run have a place for each sidx of its records
pub record IsSpan (records : List LossRecord) (least width : ℕ) : Type 0 where
  pub inside : All (λ entry. AreInside least width entry.pairs) records
  pub within : least + width ≤ 2 ^ 32

-- a place stands no farther behind another, where those before that count as farther than all others
pub record IsNoFarther (from most place : ℕ) : Type 0 where
  pub short : place < 2 ^ 32
  pub near : (place + (2 ^ 32 - from)) % 2 ^ 32 ≤ most

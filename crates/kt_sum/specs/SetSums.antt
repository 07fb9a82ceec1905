-- The sums of lanes in the summaries of a set, and the records that are made of them.
-- The rule: docs/CALCULATION.md, "Summaries".
use Rattle.std.specs.Prelude.{◌≡◌, ℕ, ◌+◌, true, cond, List, length, map, take, All, Option}
use Rattle.kt_rec.specs.Rising.{IsRising}
use Rattle.kt_rec.specs.Rows.{Rows}
use Rattle.kt_rec.specs.declared.perspective.Perspective.{Perspective}
use Rattle.kt_runs.specs.LaneRun.{LaneRun}
use Rattle.kt_stream.specs.declared.entry.LossRecord.{LossRecord}
use Rattle.kt_sum.specs.RunSummaries.{IsReadyRow, IsSumOf, IsThere}
use Rattle.kt_sum.specs.Summaries.{run_summaries}
use Rattle.kt_sum.specs.Totals.{FindsAll, IsWhole}
use Rattle.kt_sum.specs.declared.set_records.SetRecords.{SetRecords}
use Rattle.kt_sum.specs.declared.set_sums.SetSums.{SetSums}

-- the summaries of a set rise, and each that a lane has is one of them; there are sums for each, of a place for each loss of a lane, one
-- for its deviation, and one for sidx 0; sums wait for those of another set only where they are of one summary to which each lane comes
pub record AreReady (losses : LaneRun) (it : SetSums) : Type 0 where
  pub rising : IsRising it.summaries.items
  pub rows_are : map (λ row. row.summary) it.rows.items ≡ it.summaries.items
  pub many : length it.found.items ≡ length losses.records
  pub there : All (IsThere it.summaries.items) it.found.items
  pub rows : All (IsReadyRow (losses.rows + 2)) it.rows.items
  pub all : it.finds_all ≡ true → FindsAll it
  pub whole : it.waits ≡ true → IsWhole it

-- the sums of a set are those of the records of the first so many lanes, where the summary of an id in a set is found so, and those of
-- none while they wait
pub record HoldLanes (find : ℕ → ℕ → Option ℕ) (losses : LaneRun) (count : ℕ) (it : SetSums) : Type 0 where
  pub found : it.found.items ≡ map (λ entry. find it.set entry.id) losses.records
  pub sums : All (IsSumOf 2147483646 (losses.rows + 2) (find it.set) (take (cond it.waits 0 count) losses.records)) it.rows.items

-- the records of the summaries of a set
abbrev pub set_records : Perspective → Rows → ℕ → List LossRecord → ℕ → SetRecords
set_records perspective rows rule losses set = record { set = set; records = run_summaries perspective rows rule set losses }

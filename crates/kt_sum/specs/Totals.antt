-- What the sums of several summaries come to, and what all lanes of a run come to.
-- The rule: docs/CALCULATION.md, "Summaries".
use Rattle.std.specs.Prelude.{◌≡◌, ℕ, ◌+◌, true, List, length, slice_index}
use Rattle.std.specs.List.{list_all, sum_by}
use Rattle.std.specs.Option.{is_some}
use Rattle.kt_runs.specs.Adding.{Holds}
use Rattle.kt_runs.specs.RunLosses.{run_loss}
use Rattle.kt_runs.specs.Sidx.{sidx_at}
use Rattle.kt_runs.specs.LaneRun.{LaneRun}
use Rattle.kt_sum.specs.declared.set_sums.SetSums.{SetSums}
use Rattle.kt_sum.specs.declared.summary_sums.SummarySums.{SummarySums}

-- what the sums of some summaries come to in a place
abbrev pub total_at : List SummarySums → ℕ → ℕ
total_at rows k = sum_by (λ row. slice_index row.sums.items k) rows

-- sums from sidx -2 up are what all records come to
abbrev pub IsTotal : LaneRun → List ℕ → Type 0
IsTotal losses total = Holds (losses.rows + 2) (λ k. run_loss (sidx_at (2147483646 + k)) losses.records) total

-- a summary was found for each lane
abbrev pub FindsAll : SetSums → Type 0
FindsAll it = list_all is_some it.found.items ≡ true

-- a set has one summary, to which each lane comes
pub record IsWhole (it : SetSums) : Type 0 where
  pub all : FindsAll it
  pub one : length it.summaries.items ≡ 1

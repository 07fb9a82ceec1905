-- The sums of a run in each summary of a set, record by record.
-- The rule: docs/CALCULATION.md, "Summaries".
use Rattle.std.specs.Prelude.{◌≡◌, ℕ, ◌+◌, ◌*◌, true, false, nat_eq, List, length, map, All, Option, Some}
use Rattle.std.specs.List.{filter_map, list_any}
use Rattle.kt_rec.specs.Rising.{IsRising}
use Rattle.kt_rec.specs.declared.perspective.Perspective.{Perspective}
use Rattle.kt_runs.specs.Adding.{Holds}
use Rattle.kt_runs.specs.RunLosses.{run_loss}
use Rattle.kt_runs.specs.RunSums.{AreRunSums, AreSums}
use Rattle.kt_runs.specs.Sidx.{sidx_at}
use Rattle.kt_stream.specs.Losses.{IsLoss}
use Rattle.kt_stream.specs.declared.entry.LossRecord.{LossRecord}
use Rattle.kt_stream.specs.declared.entry.SummaryRecord.{SummaryRecord}
use Rattle.kt_tables.specs.Lookups.{exposure_of, summary_in}
use Rattle.kt_tables.specs.Portfolio.{PortfolioRows}
use Rattle.kt_tables.specs.SetRows.{AreFound, summary_at}
use Rattle.kt_runs.specs.PairSums.{pairs_upto}
use Rattle.kt_sum.specs.Summaries.{members, record_with}
use Rattle.kt_sum.specs.declared.run_summaries.RunSummaries.{RunSummaries}
use Rattle.kt_sum.specs.declared.set_run.SetRun.{SetRun}
use Rattle.kt_sum.specs.declared.summary_sums.SummarySums.{SummarySums}

-- the sums of a summary to which no record comes are 0
abbrev pub IsIdle : SummarySums → Type 0
IsIdle row = row.is_used ≡ false → Holds (length row.sums.items) (λ k. 0) row.sums.items

-- so many sums are all 0
abbrev pub IsZeroRow : ℕ → SummarySums → Type 0
IsZeroRow width row = Holds width (λ k. 0) row.sums.items

-- the exposure of a summary of the set of a run
abbrev pub exposure_in : SetRun → ℕ → ℕ
exposure_in run = exposure_of run.perspective run.portfolio.now.rows run.portfolio.now.need.rule run.set

-- the record of the sums of a summary, which begin at a least place, where one is above 0
abbrev pub record_of : ℕ → (ℕ → ℕ) → ℕ → SummarySums → Option SummaryRecord
record_of event exposure least row = record_with event row.summary (exposure row.summary) (pairs_upto least row.sums.items (length row.sums.items))

-- the records of the sums of summaries
abbrev pub records_of : SetRun → ℕ → List SummarySums → List SummaryRecord
records_of run least rows = filter_map (record_of run.event (exposure_in run) least) rows

-- the sums of a summary have so many places
pub record IsReadyRow (width : ℕ) (row : SummarySums) : Type 0 where
  pub width_is : length row.sums.items ≡ width
  pub idle : IsIdle row

-- a summary that was found is one of these
abbrev pub IsThere : List ℕ → Option ℕ → Type 0
IsThere summaries found = (summary : ℕ) → found ≡ Some summary → list_any (nat_eq summary) summaries ≡ true

-- the summaries rise, and each that an id has is one of them
pub record AreSummaries (it : RunSummaries) : Type 0 where
  pub rising : IsRising it.summaries.items
  pub there : (id : ℕ) → IsThere it.summaries.items (summary_at it.found id)

-- there are sums for each summary, and those of the run, in a stream with so many samples
pub record IsReady (samples : ℕ) (it : RunSummaries) : Type 0 where
  pub are : AreSummaries it
  pub rows_are : map (λ row. row.summary) it.rows.items ≡ it.summaries.items
  pub rows : All (IsReadyRow (samples + 3)) it.rows.items
  pub room : length it.room.items ≡ 12 * (samples + 3) + 12
  pub totals : AreSums samples it.totals.items

-- the summaries are those of a set of a portfolio
pub record AreOf (portfolio : PortfolioRows) (perspective : Perspective) (set : ℕ) (it : RunSummaries) : Type 0 where
  pub portfolio_is : it.portfolio.now ≡ portfolio
  pub perspective_is : it.perspective ≡ perspective
  pub set_is : it.set ≡ set
  pub found : AreFound (summary_in perspective portfolio.rows set) it.found

-- the sums of a summary are those of the records that come to it
abbrev pub IsSumOf : ℕ → ℕ → (ℕ → Option ℕ) → List LossRecord → SummarySums → Type 0
IsSumOf least width find records row = Holds width (λ k. run_loss (sidx_at (least + k)) (members find records row.summary)) row.sums.items

-- the sums are those of the records of a run, which add to at most 10^16 cents at each sidx
pub record HoldsRun (portfolio : PortfolioRows) (perspective : Perspective) (set samples : ℕ) (records : List LossRecord) (it : RunSummaries) : Type 0 where
  pub are : AreOf portfolio perspective set it
  pub good : All (IsLoss samples) records
  pub totals : AreRunSums samples records it.totals.items
  pub rows : All (IsSumOf 2147483646 (samples + 3) (summary_in perspective portfolio.rows set) records) it.rows.items

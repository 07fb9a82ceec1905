-- The period loss table of a summary stream.
-- The rules: docs/COMMANDS.md, "pltcalc".
use Rattle.std.specs.Prelude.{ℕ, Bool, true, false, List, []}
use Rattle.kt_stream.specs.declared.entry.SummaryRecord.{SummaryRecord}
use Rattle.kt_stream.specs.declared.kind.Head.{Head}
use Rattle.kt_elt.specs.PeriodLoss.{plt_heading_text, period_losses}
use Rattle.kt_ends.specs.Outcome.{Outcome}
use Rattle.kt_ends.specs.declared.status.Refusal.{Refusal}
use Rattle.kt_loop.specs.ByRecord.{by_record, table_of}
use Rattle.kt_loop.specs.Calculation.{Calculation}
use Rattle.kt_loop.specs.Outcome.{gives, stream_status}
use Rattle.kt_tables.specs.Lookups.{occurrences_of}
use Rattle.kt_tables.specs.Portfolio.{PortfolioRows}
use Rattle.kt_periods.specs.EventLossTable.{summary_contents}

-- what the table is made with: whether it begins with the names of its columns, and the portfolio
abbrev pub HeadingAndPortfolio : Type 0
HeadingAndPortfolio = Bool × PortfolioRows

abbrev pub heading_if : Bool → List ℕ
heading_if true = plt_heading_text
heading_if false = []

-- the names of the columns, where they are wanted
abbrev pub plt_heading_part : HeadingAndPortfolio → Head → List ℕ
plt_heading_part made head = heading_if made.0

-- the rows of a record: two for each occurrence of its event
abbrev pub plt_record_rows : HeadingAndPortfolio → Head → SummaryRecord → List ℕ
plt_record_rows made head entry = period_losses head.samples entry (occurrences_of made.1.rows entry.event)

-- the calculation: the names of the columns, and then the rows of each record
abbrev pub plt_calculation : Calculation Head SummaryRecord HeadingAndPortfolio Refusal
plt_calculation = by_record plt_heading_part plt_record_rows

-- the period loss table of a summary stream by the occurrences of a portfolio, up to the first refused record
abbrev pub plt_outcome : Bool → PortfolioRows → List ℕ → Outcome
plt_outcome heading portfolio source =
    let contents = summary_contents source in
    gives (stream_status contents.fault) (table_of plt_heading_part plt_record_rows (heading, portfolio) contents.head contents.entries)

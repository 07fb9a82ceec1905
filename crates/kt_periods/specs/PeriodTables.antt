-- The tables of a summary stream over all periods: average annual losses, and exceedance curves.
-- The rules: docs/COMMANDS.md, "aalcalc" and "leccalc".
use Rattle.std.specs.Prelude.{ℕ, List, [], ◌∷◌, ◌++◌, Option, Some, None, Result, Ok, Err}
use Rattle.kt_curve.specs.Average.{aal_heading_text, average_annual_loss_rows}
use Rattle.kt_curve.specs.Exceedance.{lec_heading_text, by_sidx, exceedance_rows}
use Rattle.kt_cell.specs.Losses.{Added, KeyLoss, all_losses}
use Rattle.kt_rec.specs.declared.curve.Curve.{Curve}
use Rattle.kt_ends.specs.Outcome.{Outcome}
use Rattle.kt_ends.specs.declared.status.Refusal.{Refusal}
use Rattle.kt_ends.specs.declared.status.Refusal.TheVariants.{Stream}
use Rattle.kt_ends.specs.declared.status.Status.TheVariants.{Done, Refused}
use Rattle.kt_loop.specs.Calculation.{Calculation}
use Rattle.kt_loop.specs.Contents.{Contents}
use Rattle.kt_loop.specs.Outcome.{gives, stream_status}
use Rattle.kt_loop.specs.RecordStreams.{contents_of}
use Rattle.kt_periods.specs.Adding.{added_of, all_added, record_refusal, first_refusal}
use Rattle.kt_periods.specs.declared.table.PeriodTable.{PeriodTable}
use Rattle.kt_periods.specs.declared.table.PeriodTable.TheVariants.{AverageAnnualLoss, ExceedanceCurve}
use Rattle.kt_rec.specs.Rows.{Rows}
use Rattle.kt_rec.specs.declared.perspective.Perspective.{Perspective}
use Rattle.kt_rec.specs.declared.perspective.Perspective.TheVariants.{Gul}
use Rattle.kt_stream.specs.Summary.{summary_form, summary_shape}
use Rattle.kt_stream.specs.declared.entry.Placed.{Placed}
use Rattle.kt_stream.specs.declared.entry.SummaryRecord.{SummaryRecord}
use Rattle.kt_stream.specs.declared.kind.Head.{Head}
use Rattle.kt_stream.specs.declared.stop.StreamStop.{StreamStop}
use Rattle.kt_tables.specs.Lookups.{return_periods_of}

-- the names of a table's columns, and then its rows of a set of a perspective, over so many periods and samples, at these
-- return periods
abbrev pub table_text : PeriodTable → Perspective → ℕ → ℕ → ℕ → List ℕ → List KeyLoss → List ℕ
table_text AverageAnnualLoss perspective set periods samples returns losses =
    aal_heading_text ++ average_annual_loss_rows perspective set periods samples losses
table_text (ExceedanceCurve curve) perspective set periods samples returns losses =
    lec_heading_text (by_sidx curve) ++ exceedance_rows curve perspective set periods samples losses returns

-- the table of the set and the samples of a stream, by the losses of all its records; its rows are looked for among ground-up
-- losses, whatever the stream shows
abbrev pub stream_table : PeriodTable → Rows → Head → List KeyLoss → List ℕ
stream_table kind rows head losses = table_text kind Gul head.set rows.periods head.samples (return_periods_of rows) losses

-- ---- step by step

-- what is made with which table and rows, and the records that were added so far
pub record PeriodSums : Type 0 where
  pub kind : PeriodTable
  pub rows : Rows
  pub history : List Added

-- the record is added, unless it is refused
abbrev pub added_unless : PeriodSums → Added → Option Refusal → Result PeriodSums Refusal
added_unless sums added None = Ok (record { kind = sums.kind; rows = sums.rows; history = sums.history ++ added ∷ [] })
added_unless sums added (Some refusal) = Err refusal

-- the calculation: each record is added, and the table is written at the end
abbrev pub period_calculation : Calculation Head SummaryRecord PeriodSums Refusal
period_calculation = record {
  opens = λ head sums. record { text = []; next = Ok sums };
  takes = λ head sums placed. record { text = []; next = added_unless sums (added_of sums.rows head placed.entry) (record_refusal sums.history (added_of sums.rows head placed.entry)) };
  ends = λ head sums. stream_table sums.kind sums.rows head (all_losses sums.history);
}

-- ---- as a whole

-- the table, unless a record is refused or the stream has a fault: then nothing is written
abbrev pub table_unless : Option Refusal → Option StreamStop → List ℕ → Outcome
table_unless (Some refusal) fault text = gives (Refused refusal) []
table_unless None (Some stop) text = gives (Refused (Stream stop)) []
table_unless None None text = gives Done text

-- the table of all records behind a header; without a header nothing is written
abbrev pub table_of_records : PeriodTable → Rows → Option Head → List (Placed SummaryRecord) → Option StreamStop → Outcome
table_of_records kind rows None entries fault = gives (stream_status fault) []
table_of_records kind rows (Some head) entries fault =
    table_unless (first_refusal [] (all_added rows head entries)) fault (stream_table kind rows head (all_losses (all_added rows head entries)))

-- the table of what a stream holds
abbrev pub contents_outcome : PeriodTable → Rows → Contents Head SummaryRecord → Outcome
contents_outcome kind rows contents = table_of_records kind rows contents.head contents.entries contents.fault

-- the table of a summary stream by the rows of the tables
abbrev pub period_outcome : PeriodTable → Rows → List ℕ → Outcome
period_outcome kind rows source = contents_outcome kind rows (contents_of summary_form summary_shape source)

-- the average annual losses of a summary stream, by the occurrences among the rows
abbrev pub aal_rows_outcome : Rows → List ℕ → Outcome
aal_rows_outcome rows source = period_outcome AverageAnnualLoss rows source

-- the exceedance curve of a summary stream, by the occurrences and return periods among the rows
abbrev pub lec_rows_outcome : Curve → Rows → List ℕ → Outcome
lec_rows_outcome curve rows source = period_outcome (ExceedanceCurve curve) rows source

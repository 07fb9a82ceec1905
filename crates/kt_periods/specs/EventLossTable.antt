-- The event loss table of a summary stream.
-- The rules: docs/COMMANDS.md, "eltcalc".
use Rattle.std.specs.Prelude.{ℕ, Bool, true, false, List, []}
use Rattle.kt_stream.specs.declared.entry.SummaryRecord.{SummaryRecord}
use Rattle.kt_stream.specs.declared.kind.Head.{Head}
use Rattle.kt_stream.specs.Summary.{summary_form, summary_shape}
use Rattle.kt_elt.specs.EventLoss.{elt_heading_text, event_loss_rows}
use Rattle.kt_ends.specs.Outcome.{Outcome}
use Rattle.kt_ends.specs.declared.status.Refusal.{Refusal}
use Rattle.kt_loop.specs.ByRecord.{by_record, table_of}
use Rattle.kt_loop.specs.Calculation.{Calculation}
use Rattle.kt_loop.specs.Contents.{Contents}
use Rattle.kt_loop.specs.Outcome.{gives, stream_status}
use Rattle.kt_loop.specs.RecordStreams.{contents_of}

-- the names of the columns, where they are wanted
abbrev pub elt_heading_part : Bool → Head → List ℕ
elt_heading_part true head = elt_heading_text
elt_heading_part false head = []

-- the rows of a record
abbrev pub elt_record_rows : Bool → Head → SummaryRecord → List ℕ
elt_record_rows heading head entry = event_loss_rows head.samples entry

-- the calculation: the names of the columns, and then the rows of each record
abbrev pub elt_calculation : Calculation Head SummaryRecord Bool Refusal
elt_calculation = by_record elt_heading_part elt_record_rows

-- what a summary stream holds
abbrev pub summary_contents : List ℕ → Contents Head SummaryRecord
summary_contents bytes = contents_of summary_form summary_shape bytes

-- the event loss table of a summary stream, up to the first refused record
abbrev pub elt_outcome : Bool → List ℕ → Outcome
elt_outcome heading source =
    let contents = summary_contents source in
    gives (stream_status contents.fault) (table_of elt_heading_part elt_record_rows heading contents.head contents.entries)

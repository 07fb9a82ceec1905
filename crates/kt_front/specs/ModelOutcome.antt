-- The damage distributions of the events of a stream.
-- The rules: docs/COMMANDS.md, "getmodel".
use Rattle.std.specs.Prelude.{ℕ, List, [], Option, None, Some, Ok, Err, unwrap_or}
use Rattle.std.specs.List.{flat_map}
use Rattle.kt_out.specs.NamedFiles.{FileMap}
use Rattle.kt_ends.specs.Outcome.{Outcome}
use Rattle.kt_ends.specs.declared.status.Refusal.{Refusal}
use Rattle.kt_ends.specs.declared.status.Refusal.TheVariants.{Row}
use Rattle.kt_rec.specs.FootRows.{first_refused_row}
use Rattle.kt_rec.specs.declared.foot_rows.ModelStop.{ModelStop}
use Rattle.kt_rec.specs.declared.foot_rows.ModelStop.TheVariants as stop
use Rattle.kt_load.specs.EventRows.{event_rows, footprint_name}
use Rattle.kt_loop.specs.Calculation.{Calculation, Step}
use Rattle.kt_loop.specs.Outcome.{outcome}
use Rattle.kt_loop.specs.RecordStreams.{contents_of}
use Rattle.kt_model.specs.Distribution.{distributions_of}
use Rattle.kt_rec.specs.Rows.{Rows}
use Rattle.kt_rec.specs.declared.hazard.FootRow.{FootRow}
use Rattle.kt_stream.specs.Bins.{cdf_bytes}
use Rattle.kt_stream.specs.EventIds.{event_form, event_shape}
use Rattle.kt_stream.specs.Header.{header_bytes}
use Rattle.kt_stream.specs.declared.event_id.EventId.{EventId}
use Rattle.kt_stream.specs.declared.kind.Head.{Head}
use Rattle.kt_stream.specs.declared.kind.StreamKind.TheVariants.{Cdf}

-- what distributions are made of: the rows of the tables, and the bytes of the footprint's file
pub record ModelTables : Type 0 where
  pub rows : Rows
  pub footprint : List ℕ

abbrev pub model_tables : Rows → List ℕ → ModelTables
model_tables rows footprint = record { rows = rows; footprint = footprint }

-- the header of a stream without samples and without a set
abbrev pub plain_head : Head
plain_head = record { samples = 0; set = 0 }

-- what an event gives whose footprint has these rows: its first refused row, or else its distributions. No row is refused for
-- want of memory
abbrev pub event_step : ModelTables → ℕ → List FootRow → Option ModelStop → Step ModelTables Refusal
event_step made event foot (Some (stop.Row row why)) = record { text = []; next = Err (Row event row why) }
event_step made event foot (Some stop.OutOfMemory) = record { text = flat_map cdf_bytes (distributions_of made.rows event foot); next = Ok made }
event_step made event foot None = record { text = flat_map cdf_bytes (distributions_of made.rows event foot); next = Ok made }

-- the rows of an event are judged, and its distributions are made of them
abbrev pub rows_step : ModelTables → ℕ → List FootRow → Step ModelTables Refusal
rows_step made event foot = event_step made event foot (first_refused_row foot)

-- the calculation: the header of a stream of distributions, and then the distributions of each event, whose rows are looked up in the footprint
abbrev pub model_calculation : Calculation Head EventId ModelTables Refusal
model_calculation = record {
  opens = λ head made. record { text = header_bytes Cdf plain_head; next = Ok made };
  takes = λ head made placed. rows_step made placed.entry.event (event_rows made.rows made.footprint placed.entry.event);
  ends = λ head made. [];
}

-- the distributions of the events of the source, by the rows of the tables and the footprint's file, up to the first refused id or row
abbrev pub model_outcome : FileMap → Rows → List ℕ → Outcome
model_outcome files rows source =
    outcome model_calculation (model_tables rows (unwrap_or (files footprint_name) [])) (contents_of event_form event_shape source)

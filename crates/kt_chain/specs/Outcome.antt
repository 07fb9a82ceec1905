-- What a run of all stages gives: its status and its files.
-- The rules: docs/REFUSALS.md, "Order"; docs/OUTPUTS.md, "Files of a run".
use Rattle.std.specs.Prelude.{ℕ, List, [], Option, Some, None}
use Rattle.std.specs.Option.{option_or}
use Rattle.kt_ends.specs.Outcome.{Outcome}
use Rattle.kt_ends.specs.declared.status.Refusal.{Refusal}
use Rattle.kt_ends.specs.declared.status.Refusal.TheVariants as refusal
use Rattle.kt_ends.specs.declared.status.Status.TheVariants.{Done, Refused}
use Rattle.kt_periods.specs.Adding.{first_refusal}
use Rattle.kt_rec.specs.FootRows.{first_refused_row}
use Rattle.kt_rec.specs.declared.foot_rows.ModelStop.{ModelStop}
use Rattle.kt_rec.specs.declared.foot_rows.ModelStop.TheVariants as stop
use Rattle.kt_tables.specs.Lookups.{event_ids}
use Rattle.kt_chain.specs.Events.{RunInput, all_added, event_added, foot_of}
use Rattle.kt_chain.specs.Files.{files_upto, files_whole}
use Rattle.kt_chain.specs.Reached.{Reached, reached_from}

-- why an event is refused by its footprint rows
abbrev pub row_refusal : ℕ → Option ModelStop → Option Refusal
row_refusal event None = None
row_refusal event (Some (stop.Row row cause)) = Some (refusal.Row event row cause)
row_refusal event (Some stop.OutOfMemory) = None

-- why an event is refused behind others: its first refused footprint row, or else the first of its summary records, pairs and
-- occurrences that passes a limit
abbrev pub event_refusal : RunInput → List ℕ → ℕ → Option Refusal
event_refusal run before event = option_or (row_refusal event (first_refused_row (foot_of run event))) (first_refusal (all_added run before) (event_added run event))

-- how far a run comes over its list of events
abbrev pub run_reaches : RunInput → Reached
run_reaches run = reached_from (event_refusal run) [] (event_ids run.rows)

-- the outcome by how far a run came: all tables of all events, or the refusal and the rows of the events before it
abbrev pub reached_outcome : RunInput → List ℕ → Option Refusal → Outcome
reached_outcome run done None = record { status = Done; output = []; files = files_whole run done }
reached_outcome run done (Some why) = record { status = Refused why; output = []; files = files_upto run done }

-- what a run gives
abbrev pub chain_outcome : RunInput → Outcome
chain_outcome run = reached_outcome run (run_reaches run).done (run_reaches run).refusal

-- What each event of a run gives: its block, and what of it the tables over all periods add up.
-- The rules: docs/CALCULATION.md, "Periods"; docs/OUTPUTS.md, "Files of a run".
use Rattle.std.specs.Prelude.{ℕ, List, [], unwrap_or}
use Rattle.std.specs.List.{flat_map}
use Rattle.kt_cell.specs.Losses.{Added}
use Rattle.kt_event.specs.Losses.{event_block_of, ground_up_of}
use Rattle.kt_block.specs.declared.block.EventBlock.{EventBlock}
use Rattle.kt_block.specs.declared.terms.Terms.{Terms}
use Rattle.kt_load.specs.EventRows.{event_rows, footprint_name}
use Rattle.kt_out.specs.NamedFiles.{FileMap}
use Rattle.kt_rec.specs.Rows.{Rows}
use Rattle.kt_rec.specs.declared.hazard.FootRow.{FootRow}
use Rattle.kt_stream.specs.declared.entry.LossRecord.{LossRecord}
use Rattle.kt_fold.specs.Added.{block_added}

-- what a run is made of: its terms, the rows of its tables, and the bytes of the footprint's file
pub record RunInput : Type 0 where
  pub terms : Terms
  pub rows : Rows
  pub footprint : List ℕ

-- what a run finds in the input files, whose tables have these rows
abbrev pub run_input : Terms → Rows → FileMap → RunInput
run_input terms rows files = record { terms = terms; rows = rows; footprint = unwrap_or (files footprint_name) [] }

-- the footprint rows of an event
abbrev pub foot_of : RunInput → ℕ → List FootRow
foot_of run event = event_rows run.rows run.footprint event

-- the ground-up losses of an event
abbrev pub event_losses : RunInput → ℕ → List LossRecord
event_losses run event = ground_up_of run.terms run.rows event (foot_of run event)

-- what an event gives: its summaries in each set, and the sums of its layers
abbrev pub block_of : RunInput → ℕ → EventBlock
block_of run event = event_block_of run.terms run.rows event (foot_of run event)

-- the records of an event
abbrev pub event_added : RunInput → ℕ → List Added
event_added run event = block_added run.rows (block_of run event)

-- the records of events, one after the other
abbrev pub all_added : RunInput → List ℕ → List Added
all_added run events = flat_map (event_added run) events

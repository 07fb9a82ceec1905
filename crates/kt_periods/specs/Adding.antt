-- What the records of a summary stream add to the losses of the periods, and which record is refused.
-- The rules: docs/CALCULATION.md, "Periods"; docs/REFUSALS.md, "Order".
use Rattle.std.specs.Prelude.{ℕ, List, [], ◌∷◌, ◌++◌, map, Option, Some, None}
use Rattle.std.specs.Option.{option_or}
use Rattle.kt_cell.specs.Losses.{Added, all_losses, losses_of}
use Rattle.kt_cell.specs.Standing.{first_stop}
use Rattle.kt_cell.specs.declared.cell.CellStop.{CellStop}
use Rattle.kt_cell.specs.declared.cell.CellStop.TheVariants as cell_stop
use Rattle.kt_ends.specs.declared.status.Refusal.{Refusal}
use Rattle.kt_ends.specs.declared.status.Refusal.TheVariants as refusal
use Rattle.kt_rec.specs.Rows.{Rows}
use Rattle.kt_rec.specs.declared.perspective.Perspective.TheVariants.{Gul}
use Rattle.kt_stream.specs.declared.entry.Placed.{Placed}
use Rattle.kt_stream.specs.declared.entry.SummaryRecord.{SummaryRecord}
use Rattle.kt_stream.specs.declared.kind.Head.{Head}
use Rattle.kt_tables.specs.Lookups.{occurrences_of}

-- a record of the set of the stream, with the occurrences of its event; its keys have the perspective of ground-up losses,
-- whatever the stream shows
abbrev pub added_of : Rows → Head → SummaryRecord → Added
added_of rows head entry = record { perspective = Gul; set = head.set; entry = entry; at = occurrences_of rows entry.event }

-- all records of a stream, with the occurrences of their events
abbrev pub all_added : Rows → Head → List (Placed SummaryRecord) → List Added
all_added rows head entries = map (λ placed. added_of rows head placed.entry) entries

-- how a run is refused where the cells refuse a record of an event; want of memory is no refusal, and no `first_stop`
abbrev pub cell_refusal : ℕ → CellStop → Option Refusal
cell_refusal event (cell_stop.Cells held) = Some (refusal.Cells event held)
cell_refusal event (cell_stop.Period key held more) = Some (refusal.Period event key held more)
cell_refusal event cell_stop.OutOfMemory = None

abbrev pub refusal_of : ℕ → Option CellStop → Option Refusal
refusal_of event None = None
refusal_of event (Some stop) = cell_refusal event stop

-- why a record is refused behind others: the first of its pairs and occurrences that passes a limit
abbrev pub record_refusal : List Added → Added → Option Refusal
record_refusal before added = refusal_of added.entry.event (first_stop (all_losses before) (losses_of added))

-- why records are refused behind others: the first that is
abbrev pub first_refusal : List Added → List Added → Option Refusal
first_refusal before [] = None
first_refusal before (added ∷ later) = option_or (record_refusal before added) (first_refusal (before ++ added ∷ []) later)

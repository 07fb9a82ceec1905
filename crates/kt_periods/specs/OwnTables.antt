-- The table of one set among the records of many is that of a stream of its own records.
-- The rules: docs/COMMANDS.md, "aalcalc" and "leccalc"; docs/OUTPUTS.md, "Files of a run".
use Rattle.std.specs.Prelude.{◌≡◌, ℕ, List, [], ◌∷◌, ◌++◌, refl, Option, Some, None}
use Rattle.std.specs.Option.{option_or}
use Rattle.std.proofs.Common.{sym, ap, ◌∙◌, append-nil}
use Rattle.std.proofs.lemmas.Grind.{flat_map-append}
use Rattle.kt_curve.specs.Average.{aal_heading_text}
use Rattle.kt_curve.specs.Exceedance.{by_sidx, lec_heading_text}
use Rattle.kt_cell.specs.Losses.{Added, KeyLoss, all_losses, losses_of}
use Rattle.kt_curve.specs.OwnLosses.{own_records}
use Rattle.kt_curve.specs.OwnStops.{no_memory_stop, own_not_stopped}
use Rattle.kt_period_cells.proofs.Walks.{first_stop_append, neither_stops}
use Rattle.kt_curve.specs.OwnTables.{own_averages, own_curves}
use Rattle.kt_cell.specs.Standing.{first_stop, or_else}
use Rattle.kt_cell.specs.declared.cell.CellStop.{CellStop}
use Rattle.kt_cell.specs.declared.cell.CellStop.TheVariants as cell_stop
use Rattle.kt_ends.specs.declared.status.Refusal.{Refusal}
use Rattle.kt_ends.specs.declared.status.Status.TheVariants.{Done}
use Rattle.kt_loop.specs.Outcome.{gives}
use Rattle.kt_rec.specs.Rows.{Rows}
use Rattle.kt_rec.specs.declared.perspective.Perspective.{Perspective}
use Rattle.kt_rec.specs.declared.perspective.Perspective.TheVariants.{Gul}
use Rattle.kt_stream.specs.declared.entry.Placed.{Placed}
use Rattle.kt_stream.specs.declared.entry.SummaryRecord.{SummaryRecord}
use Rattle.kt_stream.specs.declared.kind.Head.{Head}
use Rattle.kt_tables.specs.Lookups.{return_periods_of}
use Rattle.kt_periods.specs.Adding.{all_added, first_refusal, record_refusal, refusal_of}
use Rattle.kt_periods.specs.PeriodTables.{contents_outcome, stream_table, table_text, table_unless}
use Rattle.kt_periods.specs.declared.table.PeriodTable.{PeriodTable}
use Rattle.kt_periods.specs.declared.table.PeriodTable.TheVariants.{AverageAnnualLoss, ExceedanceCurve}
use Rattle.kt_rec.specs.Options.{both_none}

-- ---- what is refused

-- what the cells do not refuse is refused by no record, and the other way round
refusal_none : (event : ℕ) (stop : Option CellStop) → (stop ≡ Some cell_stop.OutOfMemory → ⊥) → refusal_of event stop ≡ None → stop ≡ None
refusal_none event None never none = refl
refusal_none event (Some (cell_stop.Cells held)) never none = cc
refusal_none event (Some (cell_stop.Period key held more)) never none = cc
refusal_none event (Some cell_stop.OutOfMemory) never none = absurd (never refl)

-- the losses with those of one record more
one_behind : (before : List Added) (added : Added) → all_losses (before ++ added ∷ []) ≡ all_losses before ++ losses_of added
one_behind before added = flat_map-append losses_of before (added ∷ []) ∙ ap (λ (last : List KeyLoss). all_losses before ++ last) (append-nil (losses_of added))

pub not_stopped : (before later : List Added) → first_refusal before later ≡ None → first_stop (all_losses before) (all_losses later) ≡ None
not_stopped before [] none = refl
not_stopped before (added ∷ later) none =
    let parts = both_none (record_refusal before added) (first_refusal (before ++ added ∷ []) later) none in
    let here : first_stop (all_losses before) (losses_of added) ≡ None = refusal_none added.entry.event (first_stop (all_losses before) (losses_of added)) (no_memory_stop (all_losses before) (losses_of added)) parts.0 in
    first_stop_append (all_losses before) (losses_of added) (all_losses later)
    ∙ (ap (λ (stop : Option CellStop). or_else stop (first_stop (all_losses before ++ losses_of added) (all_losses later))) here
    ∙ (ap (λ (losses : List KeyLoss). first_stop losses (all_losses later)) (sym (one_behind before added)) ∙ not_stopped (before ++ added ∷ []) later parts.1))

pub not_refused : (before later : List Added) → first_stop (all_losses before) (all_losses later) ≡ None → first_refusal before later ≡ None
not_refused before [] none = refl
not_refused before (added ∷ later) none =
    let parts = neither_stops (first_stop (all_losses before) (losses_of added)) (first_stop (all_losses before ++ losses_of added) (all_losses later)) (sym (first_stop_append (all_losses before) (losses_of added) (all_losses later)) ∙ none) in
    ap (λ (stop : Option CellStop). option_or (refusal_of added.entry.event stop) (first_refusal (before ++ added ∷ []) later)) parts.0
    ∙ not_refused (before ++ added ∷ []) later (ap (λ (losses : List KeyLoss). first_stop losses (all_losses later)) (one_behind before added) ∙ parts.1)

-- where no record is refused, none of a set's own is
pub own_not_refused : (perspective : Perspective) (set : ℕ) (other : Perspective) (history : List Added) → first_refusal [] history ≡ None → first_refusal [] (own_records perspective set other history) ≡ None
own_not_refused perspective set other history none = not_refused [] (own_records perspective set other history) (own_not_stopped perspective set other history (not_stopped [] history none))

-- ---- the table

-- the table of a set is that of its own records, whichever perspective these are told as
pub own_table : (kind : PeriodTable) (perspective : Perspective) (set : ℕ) (other : Perspective) (periods samples : ℕ) (returns : List ℕ) (history : List Added) → table_text kind perspective set periods samples returns (all_losses history) ≡ table_text kind other set periods samples returns (all_losses (own_records perspective set other history))
own_table AverageAnnualLoss perspective set other periods samples returns history = ap (λ (rows : List ℕ). aal_heading_text ++ rows) (own_averages perspective set other periods samples history)
own_table (ExceedanceCurve curve) perspective set other periods samples returns history = ap (λ (rows : List ℕ). lec_heading_text (by_sidx curve) ++ rows) (own_curves perspective set other curve periods samples history returns)

-- the outcome of a stream of the own records of a set is its table among all records, where none of these is refused
pub own_stream : (kind : PeriodTable) (rows : Rows) (perspective : Perspective) (head : Head) (entries : List (Placed SummaryRecord)) (history : List Added) → own_records perspective head.set Gul history ≡ all_added rows head entries → first_refusal [] history ≡ None →
    contents_outcome kind rows (record { head = Some head; entries = entries; fault = None }) ≡ gives Done (table_text kind perspective head.set rows.periods head.samples (return_periods_of rows) (all_losses history))
own_stream kind rows perspective head entries history are none =
    ap (λ (records : List Added). table_unless (first_refusal [] records) None (stream_table kind rows head (all_losses records))) (sym are)
    ∙ (ap (λ (refusal : Option Refusal). table_unless refusal None (stream_table kind rows head (all_losses (own_records perspective head.set Gul history)))) (own_not_refused perspective head.set Gul history none)
    ∙ ap (λ (text : List ℕ). gives Done text) (sym (own_table kind perspective head.set Gul rows.periods head.samples (return_periods_of rows) history)))

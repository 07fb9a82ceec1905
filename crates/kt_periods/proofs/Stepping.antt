-- Where the stage stands after a step.
use Rattle.std.proofs.Common.{◌≡◌, ◌⊎◌, ℕ, List, [], ◌∷◌, ◌++◌, Option, Some, None, Err, refl, ap, sym, subst, inl, inr, append-nil, ◌∙◌}
use Rattle.kt_cell.specs.Losses.{Added, all_losses, losses_of}
use Rattle.kt_cell.specs.Standing.{KeptCells, StandsFor, first_stop}
use Rattle.kt_cell.specs.declared.cell.CellStop.{CellStop}
use Rattle.kt_cell.specs.declared.cell.CellStop.TheVariants as cell_stop
use Rattle.kt_loop.specs.Steps.{StepsBy, StepsOn}
use Rattle.kt_periods.specs.Adding.{added_of, record_refusal, refusal_of}
use Rattle.kt_periods.specs.PeriodTables.{PeriodSums, added_unless, period_calculation}
use Rattle.kt_periods.specs.Standing.{AreCells, HoldsLosses, StandsAt, cell_tool_stop}
use Rattle.kt_periods.specs.declared.table.PeriodTable.{PeriodTable}
use Rattle.kt_rec.specs.Rows.{Rows}
use Rattle.kt_stream.specs.declared.entry.Placed.{Placed}
use Rattle.kt_stream.specs.declared.entry.SummaryRecord.{SummaryRecord}
use Rattle.kt_stream.specs.declared.kind.Head.{Head}

-- behind the header there are cells
pub cells_are : (periods : ℕ) (head : Head) (found : Option KeptCells) (cells : KeptCells) → AreCells periods (Some head) found → found ≡ Some cells → (cells.periods ≡ periods) × (cells.samples ≡ head.samples)
cells_are periods head found cells are is = subst (AreCells periods (Some head)) is are

-- they stand for the records
pub cells_stand : (history : List Added) (found : Option KeptCells) (cells : KeptCells) → HoldsLosses history found → found ≡ Some cells → StandsFor history cells
cells_stand history found cells holds is = subst (HoldsLosses history) is holds

module _ (head : Head) (sums : PeriodSums) (placed : Placed SummaryRecord) (kind : PeriodTable) (rows : Rows) (same_kind : kind ≡ sums.kind) (same_rows : rows ≡ sums.rows) (text : List ℕ) where
  -- the record with the occurrences of its event
  abbrev added : Added
  added = added_of rows head placed.entry

  -- the step is that of the cells' answer
  step_by : (stop : Option CellStop) → first_stop (all_losses sums.history) (losses_of added) ≡ stop → (period_calculation.takes head sums placed).next ≡ added_unless sums added (refusal_of placed.entry.event stop)
  step_by stop is =
      subst (λ (r : Rows). (period_calculation.takes head sums placed).next ≡ added_unless sums (added_of r head placed.entry) (record_refusal sums.history (added_of r head placed.entry))) (sym same_rows) refl
      ∙ ap (λ (why : Option CellStop). added_unless sums added (refusal_of placed.entry.event why)) is

  -- the record is added
  pub takes_on : (new : KeptCells) → first_stop (all_losses sums.history) (losses_of added) ≡ None → StandsFor (sums.history ++ added ∷ []) new → StepsOn (period_calculation.takes head sums placed) (λ next. StandsAt next kind rows (Some new)) text text
  takes_on new none stands = record {
    next = record { kind = sums.kind; rows = sums.rows; history = sums.history ++ added ∷ [] };
    reached = step_by None none;
    state = record { same_kind = same_kind; same_rows = same_rows; holds = stands };
    wrote = sym (append-nil text);
  }

  -- the record is refused, or memory is wanting
  pub takes_to_refusal : (stop : CellStop) (stands : PeriodSums → Type 0) → (stop ≡ cell_stop.OutOfMemory) ⊎ (first_stop (all_losses sums.history) (losses_of added) ≡ Some stop)
      → StepsBy {T = Unit {0}} (period_calculation.takes head sums placed) stands text text (Err (cell_tool_stop placed.entry.event stop))
  takes_to_refusal (cell_stop.Cells held) stands (inl other) = cc
  takes_to_refusal (cell_stop.Cells held) stands (inr is) = record { reached = step_by (Some (cell_stop.Cells held)) is; wrote = sym (append-nil text) }
  takes_to_refusal (cell_stop.Period key held more) stands (inl other) = cc
  takes_to_refusal (cell_stop.Period key held more) stands (inr is) = record { reached = step_by (Some (cell_stop.Period key held more)) is; wrote = sym (append-nil text) }
  takes_to_refusal cell_stop.OutOfMemory stands why = tt

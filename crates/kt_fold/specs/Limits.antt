-- How a fold stops where the cells stop at a record, and how that refuses the run.
-- The rules: docs/CALCULATION.md, "Periods"; docs/REFUSALS.md, "Order".
use Rattle.std.specs.Prelude.{ℕ}
use Rattle.kt_cell.specs.declared.cell.CellStop.{CellStop}
use Rattle.kt_cell.specs.declared.cell.CellStop.TheVariants as cell_stop
use Rattle.kt_ends.specs.declared.status.Refusal.{Refusal}
use Rattle.kt_ends.specs.declared.status.Refusal.TheVariants as refusal
use Rattle.kt_fold.specs.declared.fold.FoldStop.{FoldStop}
use Rattle.kt_fold.specs.declared.fold.FoldStop.TheVariants as fold_stop
use Rattle.kt_fold.specs.declared.limit.CellLimit.{CellLimit}
use Rattle.kt_fold.specs.declared.limit.CellLimit.TheVariants as limit

-- how a limit of the cells refuses the run at an event
abbrev pub limit_refusal : ℕ → CellLimit → Refusal
limit_refusal event (limit.Cells held) = refusal.Cells event held
limit_refusal event (limit.Period key held more) = refusal.Period event key held more

-- how a fold stops where the cells stop at a record of an event: at their limit, or for want of memory
abbrev pub stop_of_cells : ℕ → CellStop → FoldStop
stop_of_cells event (cell_stop.Cells held) = fold_stop.Cell event (limit.Cells held)
stop_of_cells event (cell_stop.Period key held more) = fold_stop.Cell event (limit.Period key held more)
stop_of_cells event cell_stop.OutOfMemory = fold_stop.OutOfMemory

-- The sums of the first rows.
use Rattle.std.proofs.Common.{◌≡◌, ◌+◌, ℕ, length, slice_index, take}
use Rattle.std.specs.Prelude.{sum}
use Rattle.kt_cell.specs.Amounts.{amounts_of, of_period}
use Rattle.kt_period_cells.specs.SummaryRows.{place_entries}
use Rattle.kt_ranks.proofs.amounts.add_periods.Given as goal

abbrev pub invariant-loop-place : goal.invariant-loop-place
invariant-loop-place l = record {
  len : length l.sums ≡ l.cells.periods;
  sums : (period : ℕ) → slice_index l.sums period ≡ sum (amounts_of l.cells.maxima (of_period (period + 1)) (place_entries l.cells.rows.now (take l.place-index l.cells.places.now)));
}

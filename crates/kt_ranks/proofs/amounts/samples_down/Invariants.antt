-- The amounts of the first rows, and room for those of the others.
use Rattle.std.proofs.Common.{◌≡◌, ◌≤◌, ◌<◌, ℕ, length, slice_index_or, take}
use Rattle.kt_ranks.specs.declared.amount_list.AmountList.{AmountList}
use Rattle.kt_ranks.specs.AmountLists.{AreSamplesDown}
use Rattle.kt_period_cells.specs.SummaryRows.{place_entries}
use Rattle.kt_ranks.proofs.amounts.samples_down.Given as goal

abbrev pub invariant-loop-place : goal.invariant-loop-place
invariant-loop-place l = record {
  many : length l.lists.items ≡ l.count;
  each : AreSamplesDown l.cells.maxima (place_entries l.cells.rows.now (take l.place-index l.cells.places.now)) l.last l.lists.items;
  few : (k : ℕ) (d : AmountList) → k < length l.lists.items → (slice_index_or l.lists.items k d).used ≤ l.place-index;
  size : (k : ℕ) (d : AmountList) → k < length l.lists.items → length (slice_index_or l.lists.items k d).values.items ≡ length l.cells.places.now;
}

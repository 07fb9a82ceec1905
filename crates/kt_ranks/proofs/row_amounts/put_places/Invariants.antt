-- The first lists have their amounts, and the others are as they were.
use Rattle.std.proofs.Common.{◌≡◌, ◌<◌, ◌≤◌, ◌-◌, ℕ, length, slice_index_or}
use Rattle.kt_ranks.specs.declared.amount_list.AmountList.{AmountList}
use Rattle.kt_cell.specs.Amounts.{amount_or_none}
use Rattle.kt_ranks.specs.AmountLists.{HasMore}
use Rattle.kt_period_cells.specs.RowCells.{cell_in, placed}
use Rattle.kt_ranks.proofs.row_amounts.put_places.Given as goal

abbrev pub invariant-loop-k : goal.invariant-loop-k
invariant-loop-k l = record {
  many : length l.lists ≡ length l.fn.lists;
  done : (j : ℕ) (d : AmountList) → j < l.k → HasMore (amount_or_none l.maxima (cell_in (placed 0 l.places) (l.last - j))) (slice_index_or l.fn.lists j d) (slice_index_or l.lists j d);
  left : (j : ℕ) (d : AmountList) → l.k ≤ j → slice_index_or l.lists j d ≡ slice_index_or l.fn.lists j d;
}

-- The sums of the first samples.
use Rattle.std.proofs.Common.{◌≡◌, ◌-◌, ◌*◌, ◌^◌, ◌≤◌, ◌<◌, ℕ, length, map, slice_index, pos, sum_by}
use Rattle.std.specs.List.{range_with_len}
use Rattle.kt_period_cells.specs.SummaryRows.{group_entries}
use Rattle.kt_cell.specs.Amounts.{amount_at}
use Rattle.kt_ranks.specs.RankedLosses.{ranked_loss}
use Rattle.kt_curve.specs.Exceedance.{sidx_values}
use Rattle.kt_curve.proofs.rank_curves.add_samples.Given as goal

abbrev pub invariant-loop-sample : goal.invariant-loop-sample
invariant-loop-sample l = record {
  len : length l.sums ≡ length l.ranks;
  most : (place : ℕ) → slice_index l.sums place ≤ (l.sample - 1) * (2 ^ 64 - 1);
  sums : (place : ℕ) → place < length l.ranks →
      slice_index l.sums place ≡ sum_by (λ sidx. ranked_loss (sidx_values l.group.perspective l.group.set l.group.periods (amount_at l.group.maxima (group_entries l.group)) l.group.summary sidx) (slice_index l.ranks place)) (map pos (range_with_len 1 (l.sample - 1)));
}

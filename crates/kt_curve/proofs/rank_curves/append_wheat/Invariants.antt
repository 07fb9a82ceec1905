-- The rows of the first samples are there.
use Rattle.std.proofs.Common.{◌≡◌, ◌-◌, ◌++◌, length, pos}
use Rattle.std.specs.List.{flat_map, range_with_len}
use Rattle.kt_period_cells.specs.SummaryRows.{group_entries}
use Rattle.kt_cell.specs.Amounts.{amount_at}
use Rattle.kt_ranks.specs.RankedLosses.{curve_rows}
use Rattle.kt_curve.specs.Exceedance.{sidx_values}
use Rattle.kt_curve.proofs.rank_curves.append_wheat.Given as goal

abbrev pub invariant-loop-sample : goal.invariant-loop-sample
invariant-loop-sample l = record {
  places : length l.placed ≡ l.group.periods;
  rows : l.out ≡ l.fn.out ++ flat_map (λ sample. curve_rows l.group.summary sample l.group.periods (sidx_values l.group.perspective l.group.set l.group.periods (amount_at l.group.maxima (group_entries l.group)) l.group.summary (pos sample)) l.returns) (range_with_len 1 (l.sample - 1));
}

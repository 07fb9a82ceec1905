-- The rows of the first summaries are there.
use Rattle.std.proofs.Common.{◌≡◌, ◌++◌, length, take}
use Rattle.std.specs.List.{flat_map}
use Rattle.kt_cell.specs.Amounts.{amount_at}
use Rattle.kt_period_cells.specs.SummaryRows.{part_entries}
use Rattle.kt_curve.specs.Exceedance.{lec_rows}
use Rattle.kt_curve.proofs.lec.append_groups.Given as goal

abbrev pub invariant-loop-place : goal.invariant-loop-place
invariant-loop-place l = record {
  places : length l.placed ≡ l.part.periods;
  rows : l.out ≡ l.fn.out ++ flat_map (λ summary. lec_rows l.curve l.part.perspective l.part.set l.part.periods l.part.samples (amount_at l.maxima (part_entries l.part summary)) l.returns summary) (take l.place l.summaries);
}

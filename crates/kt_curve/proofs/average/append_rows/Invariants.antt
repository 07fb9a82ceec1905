-- The rows of the first summaries are there.
use Rattle.std.proofs.Common.{◌≡◌, ◌++◌, take, false}
use Rattle.std.specs.List.{flat_map}
use Rattle.kt_cell.specs.Amounts.{amount_at}
use Rattle.kt_period_cells.specs.SummaryRows.{part_entries}
use Rattle.kt_curve.specs.Average.{aal_rows}
use Rattle.kt_curve.proofs.average.append_rows.Given as goal

abbrev pub invariant-loop-summary : goal.invariant-loop-summary
invariant-loop-summary l = l.out ≡ l.fn.out ++ flat_map (λ summary. aal_rows l.part.perspective l.part.set l.part.periods l.part.samples (amount_at false (part_entries l.part summary)) summary) (take l.summary-index l.summaries)

-- The means of the sums are those of the periods.
use Rattle.std.proofs.Common.{ℕ, ◌++◌, ◌+◌, ◌*◌, ◌^◌, ◌<◌, ◌≤◌, ap, ◌∙◌, arith}
use Rattle.kt_cell.specs.Standing.{most_total}
use Rattle.kt_period_cells.specs.SummaryRows.{group_entries}
use Rattle.kt_ranks.specs.RankedLosses.{curve_rows}
use Rattle.kt_period_cells.specs.Outcomes.{on_more}
use Rattle.kt_curve.proofs.Means.{period_most, sums_most, means_of_periods}
use Rattle.kt_curve.proofs.mean_curves.append_period_means.Goals as goal

-- a sum within its bound
small : (a samples : ℕ) → samples ≤ 1000 → a ≤ samples * most_total → a < 2 ^ 128
small a samples few low = omega (arith, few, low)

pub append_means-requires-clause-most : goal.append_means-requires-clause-most
append_means-requires-clause-most c =
    sums_most c.args.group.now.perspective c.args.group.now.set c.args.group.now.periods c.args.group.now.samples c.args.group.now.summary (group_entries c.args.group.now) c.args.group.now.maxima c.add_periods.new.sums c.requires.group.cells
    c.add_periods.ensures.len (λ place inside. c.add_periods.ensures.sums place)

pub returns : goal.returns
returns c = record {
  ok = let values = means_of_periods c.args.group.now.perspective c.args.group.now.set c.args.group.now.periods c.args.group.now.samples c.args.group.now.summary (group_entries c.args.group.now) c.args.group.now.maxima c.add_periods.new.sums c.requires.group.cells
      c.add_periods.ensures.len (λ place inside. c.add_periods.ensures.sums place) in
      on_more c.append_means.result (λ rows. rows ∙ ap (λ values. c.args.out.now ++ curve_rows c.args.group.now.summary 2 c.args.group.now.periods values c.args.returns.now) values) c.append_means.ensures.ok;
}

pub add_periods-requires-clause-room : goal.add_periods-requires-clause-room
add_periods-requires-clause-room c = λ period.
    let group = c.args.group.now in
    small _ group.samples c.requires.group.cells.few_samples (period_most group.perspective group.set group.periods group.samples group.summary (group_entries group) group.maxima (period + 1) c.requires.group.cells)

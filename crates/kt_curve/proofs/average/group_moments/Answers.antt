-- The mean and the deviation of a summary, from the amounts that are there.
use Rattle.std.proofs.Common.{sym, ◌∙◌}
use Rattle.kt_period_cells.specs.SummaryRows.{group_entries}
use Rattle.kt_cell.specs.Sets.{of_kind}
use Rattle.kt_curve.proofs.Curves.{amounts_most}
use Rattle.kt_curve.proofs.Moments.{group_moments, group_few, count_keys, length_amounts, moments_parts}
use Rattle.kt_curve.proofs.average.group_moments.Goals as goal

pub moments-requires-clause-few : goal.moments-requires-clause-few
moments-requires-clause-few c =
    let group = c.args.group.now in
    let few = group_few group.perspective group.set group.periods group.samples group.summary (group_entries group) c.args.mean c.requires.cells in
    let count = count_keys group.perspective group.set group.periods group.samples group.summary c.args.mean in
    rw (c.as_slice.ensures.value, c.in_ok-amounts.ensures, length_amounts group.maxima, c.count_of-count.ensures, ← count) few

pub moments-requires-clause-most : goal.moments-requires-clause-most
moments-requires-clause-most c =
    let group = c.args.group.now in
    rw (c.as_slice.ensures.value, c.in_ok-amounts.ensures) (amounts_most group.perspective group.set group.periods group.samples group.summary (group_entries group) group.maxima (of_kind c.args.mean) c.requires.cells)

pub returns : goal.returns
returns c =
    let group = c.args.group.now in
    moments_parts c.moments.result c.count_of-count.result c.as_slice.result.now _ _ c.moments.ensures.mean c.moments.ensures.sd c.count_of-count.ensures (c.as_slice.ensures.value ∙ c.in_ok-amounts.ensures)
    ∙ sym (group_moments group.perspective group.set group.periods group.samples group.summary (group_entries group) group.maxima c.args.mean _ c.requires.cells)

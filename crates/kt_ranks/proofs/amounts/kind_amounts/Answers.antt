-- The amounts of one row more.
use Rattle.std.proofs.Common.{get_or}
use Rattle.std.proofs.lemmas.List.{get_or_default}
use Rattle.kt_period_cells.specs.declared.group.SummaryRow.{SummaryRow}
use Rattle.kt_cell.specs.Sets.{of_kind}
use Rattle.kt_ranks.proofs.RowAmounts.{amounts_more}
use Rattle.kt_ranks.proofs.amounts.kind_amounts.Goals as goal

-- no place
abbrev none : SummaryRow
none = record { summary = 0; row = 0 }

pub loop-place-preserved : goal.loop-place-preserved
loop-place-preserved c =
    amounts_more c.args.cells.now.maxima (of_kind c.args.mean) c.args.cells.now.rows.now c.args.cells.now.places.now c.loop-place.place-index (get_or c.args.cells.now.places.now c.loop-place.place-index none) c.loop-place.found.items _ c.loop-place-test.true (get_or_default c.args.cells.now.places.now c.loop-place.place-index none _ c.loop-place-test.true) c.loop-place.invariant c.in_ok-push_kind.ensures.ok

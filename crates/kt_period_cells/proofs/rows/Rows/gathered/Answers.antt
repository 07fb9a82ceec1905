-- The place of one row more.
use Rattle.std.proofs.Common.{refl}
use Rattle.kt_period_cells.specs.SummaryRows.{is_listed}
use Rattle.kt_period_cells.proofs.SetRows.{places_more}
use Rattle.kt_period_cells.proofs.rows.Rows.gathered.Goals as goal

pub loop-place-preserved : goal.loop-place-preserved
loop-place-preserved c = rw (← c.self.view_is)
    (places_more c.args.perspective c.args.set c.self.inside.rows.items c.loop-place.place c.row-item.result c.loop-place.found.items _ (is_listed c.args.perspective c.args.set c.row-item.result)
    (rw c.deref-row-items.ensures.value at c.loop-place-test.true) (rw c.deref-row-items.ensures.value at c.row-item.is) refl (rw (← c.self.view_is) at c.loop-place.invariant) c.in_ok-push_row.ensures.ok)

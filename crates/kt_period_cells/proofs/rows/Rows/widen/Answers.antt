-- A row with a place for each sample has the same cells.
use Rattle.std.proofs.Common.{arith}
use Rattle.kt_period_cells.proofs.Places.{keys_set}
use Rattle.kt_period_cells.proofs.RowBounds.{table_widened, entries_widened}
use Rattle.kt_period_cells.proofs.rows.Rows.widen.Goals as goal

pub invariant_of-self : goal.invariant_of-self
invariant_of-self c =
    table_widened _ _ _ _ c.self.inside.rows.items c.args.place c.index_mut.result.now c.widen.new.self c.self.invariant (omega (arith, c.if-place-len.false, c.len.ensures, c.self.inside.rows.ok.0)) c.index_mut.ensures.value c.widen.ensures.key c.widen.ensures.cells c.widen.ensures.wide c.widen.ensures.bound

pub returns-clause-entries : goal.returns-clause-entries
returns-clause-entries c = rw (← c.self.view_is) (entries_widened c.self.inside.rows.items c.args.place c.index_mut.result.now c.widen.new.self c.index_mut.ensures.value c.widen.ensures.key c.widen.ensures.cells)

pub returns-clause-rows : goal.returns-clause-rows
returns-clause-rows c = rw (← c.self.view_is) (keys_set c.self.inside.rows.items c.args.place c.index_mut.result.now c.widen.new.self c.index_mut.ensures.value c.widen.ensures.key)

-- The row that was read has room.
use Rattle.std.proofs.Common.{arith, sym, subst}
use Rattle.kt_period_cells.specs.Room.{IsRoomyAt}
use Rattle.kt_period_cells.proofs.RowBounds.{table_bound}
use Rattle.kt_period_cells.proofs.SetRows.{row_is}
use Rattle.kt_period_cells.proofs.rows.Rows.has_row_room.Goals as goal

pub has_room-requires-clause-bound : goal.has_room-requires-clause-bound
has_room-requires-clause-bound c = table_bound _ _ _ _ c.self.inside.rows.items c.args.row c.index.result.now c.self.invariant (omega (arith, c.if-row-len.true, c.len.ensures, c.self.inside.rows.ok.0)) c.index.ensures

pub returns-then-row-len : goal.returns-then-row-len
returns-then-row-len c = rw (← c.self.view_is) (record {
  value = λ yes. subst (IsRoomyAt c.args.more) (sym (row_is c.self.inside.rows.items c.args.row c.index.result.now (omega (arith, c.if-row-len.true, c.len.ensures, c.self.inside.rows.ok.0)) c.index.ensures)) (c.has_room.ensures.value yes);
})

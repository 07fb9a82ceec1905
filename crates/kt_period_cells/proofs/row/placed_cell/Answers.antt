-- The cell of a place.
use Rattle.std.proofs.Common.{sym, arith}
use Rattle.kt_period_cells.proofs.PlacedCells.{placed_past, placed_some, placed_none}
use Rattle.kt_period_cells.proofs.row.placed_cell.Goals as goal

pub returns-then-at-places : goal.returns-then-at-places
returns-then-at-places c = record { value = sym (placed_past 0 c.args.places.now c.args.sample (omega (arith, c.if-at-places.true))) }

pub returns-then-cell-eq0 : goal.returns-then-cell-eq0
returns-then-cell-eq0 c = record { value = placed_none c.args.places.now c.args.sample _ (omega (arith, c.if-at-places.false)) c.if-cell-eq0.true }

pub returns-else-cell-eq0 : goal.returns-else-cell-eq0
returns-else-cell-eq0 c = record { value = placed_some c.args.places.now c.args.sample _ (omega (arith, c.if-at-places.false)) (omega (arith, c.if-cell-eq0.false)) }

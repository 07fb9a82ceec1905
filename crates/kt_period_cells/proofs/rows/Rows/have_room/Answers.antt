-- The row at one spot more has room.
use Rattle.std.proofs.Common.{List, refl, subst, take_all}
use Rattle.kt_period_cells.specs.declared.rows.Spot.{Spot}
use Rattle.kt_period_cells.specs.Room.{IsRoomyAt, AreRoomy}
use Rattle.kt_period_cells.specs.SummaryRows.{row_at}
use Rattle.kt_period_cells.proofs.RoomLemmas.{all_take_more}
use Rattle.kt_period_cells.proofs.rows.Rows.have_room.Goals as goal

pub loop-spot-preserved : goal.loop-spot-preserved
loop-spot-preserved c =
    all_take_more (λ (spot : Spot). IsRoomyAt c.args.more (row_at c.args.self.now.rows spot.row)) c.args.spots.now c.loop-spot.spot-index (record { period = 0; row = 0 }) c.loop-spot-test.true c.loop-spot.invariant
    (c.if-not-has_row_room.ensures.value refl)

pub returns : goal.returns
returns c = record { value = λ yes. subst (λ (spots : List Spot). AreRoomy c.args.more spots c.args.self.now.rows) (take_all c.loop-spot.spot-index c.args.spots.now c.loop-spot-test.false) c.loop-spot.invariant }

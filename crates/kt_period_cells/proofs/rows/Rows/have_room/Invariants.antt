-- The rows at the first spots have room.
use Rattle.std.proofs.Common.{take}
use Rattle.kt_period_cells.specs.Room.{AreRoomy}
use Rattle.kt_period_cells.proofs.rows.Rows.have_room.Given as goal

abbrev pub invariant-loop-spot : goal.invariant-loop-spot
invariant-loop-spot l = AreRoomy l.more (take l.spot-index l.spots) l.self.rows

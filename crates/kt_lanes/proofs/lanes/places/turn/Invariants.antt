-- The first places are their own.
use Rattle.kt_lanes.specs.Places.{AreTurning}
use Rattle.kt_lanes.proofs.lanes.places.turn.Given as goal

abbrev pub invariant-loop-at : goal.invariant-loop-at
invariant-loop-at l = AreTurning l.fn.places l.fn.lanes l.at l.places l.owners l.lanes

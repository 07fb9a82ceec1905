-- The owners of the first places are found.
use Rattle.kt_lanes.proofs.PlaceLemmas.{AreFound}
use Rattle.kt_lanes.proofs.lanes.places.owners_of.Given as goal

abbrev pub invariant-loop-at : goal.invariant-loop-at
invariant-loop-at l = AreFound l.lanes l.places l.at l.owners.items

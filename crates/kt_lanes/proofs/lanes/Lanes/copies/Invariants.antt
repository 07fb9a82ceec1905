-- The lanes in the first places are copied.
use Rattle.std.proofs.Common.{◌≡◌, take}
use Rattle.kt_lanes.specs.Places.{lanes_at}
use Rattle.kt_lanes.proofs.lanes.Lanes.copies.Given as goal

abbrev pub invariant-loop-place : goal.invariant-loop-place
invariant-loop-place l = l.made ≡ lanes_at l.self (take l.place-index l.places)

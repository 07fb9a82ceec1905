use Rattle.std.proofs.Common.{map, take, slice_index}
use Rattle.kt_lanes.specs.Lanes.{column, AreLanes}
use Rattle.kt_levels.proofs.climbing.lanes_in.Given as goal

abbrev pub invariant-loop-place : goal.invariant-loop-place
invariant-loop-place l = AreLanes l.width l.place-index (λ k. map (slice_index (column k l.lanes)) (take l.place-index l.places)) l.found

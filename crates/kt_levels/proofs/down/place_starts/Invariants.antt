use Rattle.std.proofs.Common.{◌≡◌, map, take}
use Rattle.kt_fmtree.specs.Placed.{node_at}
use Rattle.kt_levels.proofs.down.place_starts.Given as goal

abbrev pub invariant-loop-place : goal.invariant-loop-place
invariant-loop-place l = l.starts.items ≡ map (λ place. (node_at l.nodes place).start) (take l.place-index l.places)

use Rattle.std.proofs.Common.{◌≡◌, take}
use Rattle.std.specs.List.{All}
use Rattle.kt_fmtree.specs.Placed.{node_at}
use Rattle.kt_levels.proofs.down.are_single.Given as goal

abbrev pub invariant-loop-place : goal.invariant-loop-place
invariant-loop-place l = All (λ place. (node_at l.nodes place).width ≡ 1) (take l.place-index l.places)

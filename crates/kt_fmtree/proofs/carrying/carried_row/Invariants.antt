use Rattle.std.proofs.Common.{◌≡◌, map, take}
use Rattle.kt_fmtree.specs.Carried.{node_carry}
use Rattle.kt_fmtree.proofs.carrying.carried_row.Given as goal

abbrev pub invariant-loop-node : goal.invariant-loop-node
invariant-loop-node l = l.row.items ≡ map (node_carry l.below) (take l.node-index l.nodes)

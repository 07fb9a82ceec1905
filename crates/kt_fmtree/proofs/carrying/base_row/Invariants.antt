use Rattle.std.proofs.Common.{◌≡◌, map, take}
use Rattle.kt_fmtree.specs.Carried.{child_sum}
use Rattle.kt_fmtree.proofs.carrying.base_row.Given as goal

abbrev pub invariant-loop-node : goal.invariant-loop-node
invariant-loop-node l = l.row.items ≡ map (child_sum l.below) (take l.node-index l.nodes)

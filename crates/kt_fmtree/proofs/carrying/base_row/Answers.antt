use Rattle.kt_fmtree.specs.Carried.{child_sum}
use Rattle.kt_fmtree.specs.LoopLaws.{map-goes}
use Rattle.kt_fmtree.proofs.carrying.base_row.Goals as goal

pub loop-node-preserved : goal.loop-node-preserved
loop-node-preserved c = map-goes (child_sum c.args.below.now) c.args.nodes.now c.loop-node.node-index _ c.loop-node.row.items _ c.child_sum.result c.loop-node-test.true c.loop-node.invariant c.in_ok-push.ensures.items c.child_sum.ensures.value

use Rattle.kt_fmtree.specs.Carried.{node_carry}
use Rattle.kt_fmtree.specs.LoopLaws.{map-goes}
use Rattle.kt_fmtree.proofs.carrying.carried_row.Goals as goal

pub loop-node-preserved : goal.loop-node-preserved
loop-node-preserved c = map-goes (node_carry c.args.below.now) c.args.nodes.now c.loop-node.node-index _ c.loop-node.row.items _ c.node_carry.result c.loop-node-test.true c.loop-node.invariant c.in_ok-push.ensures.items c.node_carry.ensures.value

use Rattle.std.proofs.Common.{refl}
use Rattle.kt_fmtree.specs.LoopLaws.{behind-goes}
use Rattle.kt_levels.proofs.LayerLemmas.{layer_at}
use Rattle.kt_levels.proofs.layers.push_layers.Goals as goal

pub loop-layer-preserved : goal.loop-layer-preserved
loop-layer-preserved c =
    behind-goes c.args.found.now.items (layer_at c.args.node c.args.top) c.args.layers.now c.loop-layer.layer-index 0 c.loop-layer.found.items _ _ c.loop-layer-test.true c.loop-layer.invariant c.in_ok-push.ensures.items refl

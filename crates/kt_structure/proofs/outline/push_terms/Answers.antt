use Rattle.std.proofs.Common.{◌++◌, ◌∙◌, ap, append-nil, map, sym}
use Rattle.std.proofs.lemmas.List.{take_all}
use Rattle.kt_fmtree.specs.LoopLaws.{behind-goes}
use Rattle.kt_structure.specs.Plan.{found_terms}
use Rattle.kt_structure.proofs.outline.push_terms.Goals as goal

pub loop-layer-init : goal.loop-layer-init
loop-layer-init c = sym (append-nil c.args.row.now.items)

pub loop-layer-preserved : goal.loop-layer-preserved
loop-layer-preserved c =
    behind-goes c.args.row.now.items (λ layer. found_terms c.args.terms.now layer c.args.level c.args.top) c.args.layers.now c.loop-layer.layer-index 0 c.loop-layer.row.items _ c.of.result c.loop-layer-test.true c.loop-layer.invariant c.in_ok-push.ensures.items c.of.ensures.value

pub returns : goal.returns
returns c = record {
  ok = c.loop-layer.invariant ∙ ap (λ layers. c.args.row.now.items ++ map (λ layer. found_terms c.args.terms.now layer c.args.level c.args.top) layers) (take_all c.loop-layer.layer-index c.args.layers.now c.loop-layer-test.false);
}

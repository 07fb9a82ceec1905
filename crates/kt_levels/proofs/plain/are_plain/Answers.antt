use Rattle.std.proofs.Common.{◌≡◌, ◌∙◌, false, take, sym, subst, arith}
use Rattle.std.proofs.lemmas.List.{take_more, take_all}
use Rattle.kt_rules.specs.LossAlone.{looks_back}
use Rattle.kt_fmtree.specs.declared.node.Node.{Node}
use Rattle.kt_levels.specs.Climbed.{ArePlain}
use Rattle.kt_lanes.specs.LaneLaws.{All-more}
use Rattle.kt_levels.proofs.plain.are_plain.Goals as goal

pub loop-node-preserved : goal.loop-node-preserved
loop-node-preserved c =
    subst ArePlain (sym (take_more c.args.nodes.now c.loop-node.node-index _ c.loop-node-test.true))
    (All-more (λ (node : Node). looks_back node.profile.rule ≡ false) (take c.loop-node.node-index c.args.nodes.now) _ c.loop-node.invariant (sym c.looks_back.ensures.value ∙ c.if-looks_back.false))

pub returns : goal.returns
returns c = record { plain = λ _. subst ArePlain (take_all c.loop-node.node-index c.args.nodes.now (omega (arith, c.loop-node-test.false))) c.loop-node.invariant }

use Rattle.std.proofs.Common.{◌≡◌, ◌∙◌, ℕ, slice_index, take, ap, sym, subst, arith}
use Rattle.std.specs.List.{All}
use Rattle.std.proofs.lemmas.List.{get_or_default, take_more, take_all}
use Rattle.kt_fmtree.specs.declared.node.Node.{Node}
use Rattle.kt_fmtree.specs.Placed.{no_node, node_at}
use Rattle.kt_lanes.specs.LaneLaws.{All-more}
use Rattle.kt_levels.proofs.down.are_single.Goals as goal

pub loop-place-preserved : goal.loop-place-preserved
loop-place-preserved c =
    let nodes = c.args.nodes.now in
    let i = c.loop-place.place-index in
    let place = slice_index c.args.places.now i in
    let none : Node = record { unit = 0; start = 0; width = 0; tiv = 0; profile = record { rule = 0; ded1 = 0; ded2 = 0; ded3 = 0; att1 = 0; lim1 = 0; share1 = 0; share2 = 0; share3 = 0 } } in
    let node = get_or_default nodes place none no_node (c.requires.places i 0 c.loop-place-test.true) in
    subst (All (λ place. (node_at nodes place).width ≡ 1)) (sym (take_more c.args.places.now i 0 c.loop-place-test.true))
    (All-more (λ (place : ℕ). (node_at nodes place).width ≡ 1) (take i c.args.places.now) place c.loop-place.invariant (sym (ap (λ (node : Node). node.width) node) ∙ c.if-nodes-place-ne1.false))

pub returns : goal.returns
returns c = record { single = λ _. subst (All (λ place. (node_at c.args.nodes.now place).width ≡ 1)) (take_all c.loop-place.place-index c.args.places.now (omega (arith, c.loop-place-test.false))) c.loop-place.invariant }

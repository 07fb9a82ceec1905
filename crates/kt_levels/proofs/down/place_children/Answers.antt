use Rattle.std.proofs.Common.{◌∙◌, ◌++◌, slice_index, ap, arith}
use Rattle.std.specs.List.{flat_map, range_with_len}
use Rattle.std.proofs.lemmas.List.{get_or_default, take_all}
use Rattle.kt_fmtree.specs.declared.node.Node.{Node}
use Rattle.kt_fmtree.specs.LoopLaws.{flat_map-goes}
use Rattle.kt_fmtree.specs.Placed.{no_node}
use Rattle.kt_levels.specs.Down.{child_places}
use Rattle.kt_levels.proofs.down.place_children.Goals as goal

pub push_places-requires : goal.push_places-requires
push_places-requires c =
    let i = c.loop-part.part-index in
    let none : Node = record { unit = 0; start = 0; width = 0; tiv = 0; profile = record { rule = 0; ded1 = 0; ded2 = 0; ded3 = 0; att1 = 0; lim1 = 0; share1 = 0; share2 = 0; share3 = 0 } } in
    omega (arith, c.len-all.ensures.value, c.requires.fits (slice_index c.args.parts.now i) none (c.requires.within i 0 c.loop-part-test.true))

pub loop-part-preserved : goal.loop-part-preserved
loop-part-preserved c =
    let i = c.loop-part.part-index in
    let place = slice_index c.args.parts.now i in
    let none : Node = record { unit = 0; start = 0; width = 0; tiv = 0; profile = record { rule = 0; ded1 = 0; ded2 = 0; ded3 = 0; att1 = 0; lim1 = 0; share1 = 0; share2 = 0; share3 = 0 } } in
    flat_map-goes (child_places c.args.nodes.now) c.args.parts.now i 0 c.loop-part.places.items c.push_places.new.places.items c.loop-part-test.true c.loop-part.invariant
    (c.in_ok-push_places.ensures.value
    ∙ ap (λ (node : Node). c.loop-part.places.items ++ range_with_len node.start node.width) (get_or_default c.args.nodes.now place none no_node (c.requires.within i 0 c.loop-part-test.true)))

pub returns : goal.returns
returns c = record { value = c.loop-part.invariant ∙ ap (flat_map (child_places c.args.nodes.now)) (take_all c.loop-part.part-index c.args.parts.now (omega (arith, c.loop-part-test.false))) }

use Rattle.std.proofs.Common.{ℕ, slice_index, ap}
use Rattle.std.proofs.lemmas.List.{get_or_default}
use Rattle.kt_fmtree.specs.declared.node.Node.{Node}
use Rattle.kt_fmtree.specs.LoopLaws.{map-goes}
use Rattle.kt_fmtree.specs.Placed.{no_node, node_at}
use Rattle.kt_levels.proofs.down.place_starts.Goals as goal

pub loop-place-preserved : goal.loop-place-preserved
loop-place-preserved c =
    let place = slice_index c.args.places.now c.loop-place.place-index in
    let none : Node = record { unit = 0; start = 0; width = 0; tiv = 0; profile = record { rule = 0; ded1 = 0; ded2 = 0; ded3 = 0; att1 = 0; lim1 = 0; share1 = 0; share2 = 0; share3 = 0 } } in
    map-goes (λ (place : ℕ). (node_at c.args.nodes.now place).start) c.args.places.now c.loop-place.place-index 0 c.loop-place.starts.items c.push.new.self.items _ c.loop-place-test.true c.loop-place.invariant c.in_ok-push.ensures.items (ap (λ (node : Node). node.start) (get_or_default c.args.nodes.now place none no_node (c.requires.places c.loop-place.place-index 0 c.loop-place-test.true)))

use Rattle.std.proofs.Common.{◌≡◌, ◌<◌, ◌++◌, List, length, ap, arith, slice_index_or, subst}
use Rattle.std.specs.List.{flat_map}
use Rattle.std.proofs.lemmas.List.{get_or_default}
use Rattle.std.proofs.lemmas.List.Elements.{All-from_recursion}
use Rattle.kt_fmtree.specs.declared.node.Node.{Node}
use Rattle.kt_fmtree.specs.Placed.{amounts_for, children_of, given_by, no_node, parts_from}
use Rattle.kt_fmtree.specs.declared.part.PlacedPart.{PlacedPart}
use Rattle.kt_fmtree.specs.DownLaws.{AreGiven, amount-le, given-goes, given-ends}
use Rattle.kt_fmtree.proofs.down.level_down.Goals as goal

pub loop-part-init : goal.loop-part-init
loop-part-init c = ap (λ (given : List PlacedPart). given ++ flat_map (given_by c.args.whole c.args.nodes.now c.args.below.now) c.args.parts.now) c.in_ok-given.ensures.items

pub bounds-nodes-part : goal.bounds-nodes-part
bounds-nodes-part c = All-from_recursion (λ (part : PlacedPart). part.place < length c.args.nodes.now) c.args.parts.now c.requires.places c.loop-part.part-index (record { place = 0; amount = 0 }) c.loop-part-test.true

pub push_children-requires-clause-can : goal.push_children-requires-clause-can
push_children-requires-clause-can c =
    c.requires.can _ _ (All-from_recursion (λ (part : PlacedPart). part.place < length c.args.nodes.now) c.args.parts.now c.requires.places c.loop-part.part-index (record { place = 0; amount = 0 }) c.loop-part-test.true)

pub push_children-requires-clause-most : goal.push_children-requires-clause-most
push_children-requires-clause-most c = λ is. omega (arith, c.requires.few is, amount-le c.args.parts.now c.loop-part.part-index (record { place = 0; amount = 0 }) c.loop-part-test.true)

pub loop-part-preserved : goal.loop-part-preserved
loop-part-preserved c =
    let parts = c.args.parts.now in
    let at = c.loop-part.part-index in
    let given = c.loop-part.given.items in
    let more = c.push_children.new.parts.items in
    let none : PlacedPart = record { place = 0; amount = 0 } in
    let part = slice_index_or parts at none in
    let inside = All-from_recursion (λ (one : PlacedPart). one.place < length c.args.nodes.now) parts c.requires.places at none c.loop-part-test.true in
    given-goes c.args.whole c.args.nodes.now c.args.below.now parts at given more none c.loop-part-test.true c.loop-part.invariant
    (subst (λ (node : Node). more ≡ given ++ parts_from node.start (amounts_for c.args.whole part.amount (children_of c.args.below.now node))) (get_or_default c.args.nodes.now part.place _ no_node inside) c.in_ok-push_children.ensures.value)

pub returns : goal.returns
returns c =
    let all : c.loop-part.part-index ≡ length c.args.parts.now = omega arith in
    record { value = given-ends c.args.whole c.args.nodes.now c.args.below.now c.args.parts.now c.loop-part.given.items (subst (λ at. AreGiven c.args.whole c.args.nodes.now c.args.below.now c.args.parts.now at c.loop-part.given.items) all c.loop-part.invariant) }

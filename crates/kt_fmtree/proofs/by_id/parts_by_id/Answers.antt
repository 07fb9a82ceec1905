use Rattle.std.proofs.Common.{◌∙◌, ◌<◌, length, map, ap}
use Rattle.std.proofs.lemmas.List.{length-map, take_all}
use Rattle.std.proofs.lemmas.List.Elements.{All-from_recursion}
use Rattle.kt_fmtree.specs.Sharing.{part_of}
use Rattle.kt_fmtree.specs.Parts.{units_at}
use Rattle.kt_fmtree.specs.Placed.{unit_parts}
use Rattle.kt_fmtree.specs.declared.part.PlacedPart.{PlacedPart}
use Rattle.kt_fmtree.specs.IdLaws.{no-parts, part-fits, next-part}
use Rattle.kt_fmtree.proofs.by_id.parts_by_id.Goals as goal

pub loop-near-init : goal.loop-near-init
loop-near-init c = c.in_ok-amounts.ensures.value ∙ no-parts c.args.ids.now

pub id_at-requires : goal.id_at-requires
id_at-requires c = All-from_recursion (λ (part : PlacedPart). part.place < length c.args.programme.now.leaves) c.args.parts.now c.requires.places c.loop-near.near (record { place = 0; amount = 0 }) c.loop-near-test.true

pub add_to-requires-clause-same : goal.add_to-requires-clause-same
add_to-requires-clause-same c = ap length c.loop-near.invariant ∙ length-map c.args.ids.now _

pub add_to-requires-clause-few : goal.add_to-requires-clause-few
add_to-requires-clause-few c = part-fits (units_at c.args.programme.now 0) c.args.ids.now c.loop-near.amounts.items c.args.parts.now c.loop-near.near _ c.loop-near-test.true c.requires.few c.loop-near.invariant

pub loop-near-preserved : goal.loop-near-preserved
loop-near-preserved c = next-part (units_at c.args.programme.now 0) c.args.ids.now c.loop-near.amounts.items _ c.args.parts.now c.loop-near.near c.id_at.result _ c.loop-near-test.true c.loop-near.invariant c.id_at.ensures.value c.add_to.ensures.value

pub returns : goal.returns
returns c = record { value = c.loop-near.invariant ∙ ap (λ parts. map (part_of (unit_parts (units_at c.args.programme.now 0) parts)) c.args.ids.now) (take_all c.loop-near.near c.args.parts.now c.loop-near-test.false) }

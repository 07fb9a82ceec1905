use Rattle.std.proofs.Common.{◌<◌, length}
use Rattle.std.proofs.lemmas.List.Elements.{All-from_recursion}
use Rattle.kt_fmtree.specs.declared.part.PlacedPart.{PlacedPart}
use Rattle.kt_fmtree.proofs.down.children_of.Goals as goal

pub bounds-nodes-part : goal.bounds-nodes-part
bounds-nodes-part c = All-from_recursion (λ (part : PlacedPart). part.place < length c.args.nodes.now) c.args.parts.now c.requires.places c.loop-part.part-index (record { place = 0; amount = 0 }) c.loop-part-test.true

use Rattle.kt_fmtree.specs.DownLaws.{AreGiven}
use Rattle.kt_fmtree.proofs.down.level_down.Given as goal

abbrev pub invariant-loop-part : goal.invariant-loop-part
invariant-loop-part l = AreGiven l.whole l.nodes l.below l.parts l.part-index l.given.items

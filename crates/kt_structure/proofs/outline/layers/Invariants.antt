-- The layers of the tops so far, one behind the other.
use Rattle.std.proofs.Common.{◌≡◌, length, map, take}
use Rattle.kt_fmtree.specs.Programme.{or_first}
use Rattle.kt_fmtree.specs.Lists.{AreEnds, lists_from}
use Rattle.kt_structure.specs.Plan.{linked}
use Rattle.kt_structure.proofs.outline.layers.Given as goal

abbrev pub invariant-loop-top : goal.invariant-loop-top
invariant-loop-top l = record {
  ends_are : AreEnds 0 (length l.all.items) l.bounds.items;
  lists_are : lists_from 0 l.all.items l.bounds.items ≡ map (λ top. or_first (linked l.links l.level top)) (take l.top-index l.tops);
}

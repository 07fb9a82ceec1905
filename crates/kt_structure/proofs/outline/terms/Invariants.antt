-- The terms of the layers of the tops so far, one behind the other.
use Rattle.std.proofs.Common.{◌≡◌, ℕ, List, length, map, take}
use Rattle.kt_fmtree.specs.Lists.{AreEnds, lists_from}
use Rattle.kt_structure.specs.Plan.{found_terms}
use Rattle.kt_structure.proofs.outline.terms.Given as goal

abbrev pub invariant-loop-at : goal.invariant-loop-at
invariant-loop-at l = record {
  ends_are : AreEnds 0 (length l.all.items) l.bounds.items;
  lists_are : (layers_at : ℕ → List ℕ) → l.layers ≡ map layers_at l.tops → lists_from 0 l.all.items l.bounds.items ≡ map (λ top. map (λ layer. found_terms l.terms layer l.level top) (layers_at top)) (take l.at l.tops);
}

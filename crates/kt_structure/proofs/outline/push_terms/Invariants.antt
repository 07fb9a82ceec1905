use Rattle.std.proofs.Common.{◌≡◌, ◌++◌, map, take}
use Rattle.kt_structure.specs.Plan.{found_terms}
use Rattle.kt_structure.proofs.outline.push_terms.Given as goal

abbrev pub invariant-loop-layer : goal.invariant-loop-layer
invariant-loop-layer l = l.row.items ≡ l.fn.row.items ++ map (λ layer. found_terms l.terms layer l.level l.top) (take l.layer-index l.layers)

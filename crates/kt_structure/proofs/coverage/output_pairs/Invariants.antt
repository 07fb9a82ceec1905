use Rattle.std.proofs.Common.{◌≡◌, map, take, nat_eq}
use Rattle.std.specs.HashMap.{get}
use Rattle.kt_structure.proofs.coverage.output_pairs.Given as goal

abbrev pub invariant-loop-row : goal.invariant-loop-row
invariant-loop-row l = l.covered.items ≡ map (λ row. (row.output_id, get nat_eq l.found row.agg_id)) (take l.row-index l.outputs)

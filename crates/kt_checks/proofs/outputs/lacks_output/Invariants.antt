use Rattle.std.proofs.Common.{◌≡◌, ◌&&◌, not, nat_eq}
use Rattle.std.specs.HashSet.{contains}
use Rattle.kt_keys.specs.Keys.{same_pair}
use Rattle.kt_checks.specs.OutputChecks.{has_owner, some_layer, has_layer}
use Rattle.kt_checks.proofs.outputs.lacks_output.Given as goal

abbrev pub invariant-loop-below : goal.invariant-loop-below
invariant-loop-below l = l.lacks ≡ some_layer (λ layer. has_layer (contains nat_eq l.lookups.with_terms) (contains same_pair l.lookups.layers) l.unit layer && not (has_owner l.lookups.outputs (l.owner, layer))) l.below

use Rattle.std.proofs.Common.{◌≡◌, nat_eq, take, drop}
use Rattle.std.specs.HashSet.{contains}
use Rattle.kt_keys.specs.Keys.{same_pair}
use Rattle.kt_keys.specs.UnitTable.{value_of}
use Rattle.kt_checks.specs.OutputChecks.{has_owner, owes_output, lacks_output}
use Rattle.kt_keys.specs.FirstRow.{first_where, first_refused_after}
use Rattle.kt_checks.proofs.outputs.first_owing.Given as goal

abbrev pub invariant-loop-index : goal.invariant-loop-index
invariant-loop-index l =
    first_refused_after (λ _ row. owes_output l.rule l.top (value_of l.lookups.next) (lacks_output (contains nat_eq l.lookups.with_terms) (contains same_pair l.lookups.layers) (has_owner l.lookups.outputs)) row) (take l.index l.rows) (drop l.index l.rows) ≡ first_where (owes_output l.rule l.top (value_of l.lookups.next) (lacks_output (contains nat_eq l.lookups.with_terms) (contains same_pair l.lookups.layers) (has_owner l.lookups.outputs))) l.rows

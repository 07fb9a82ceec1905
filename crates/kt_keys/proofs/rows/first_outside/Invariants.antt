use Rattle.std.proofs.Common.{◌≡◌, not, take, drop}
use Rattle.std.specs.HashSet.{contains}
use Rattle.kt_keys.specs.FirstRow.{first_where, first_refused_after}
use Rattle.kt_keys.proofs.rows.first_outside.Given as goal

abbrev pub invariant-loop-index : goal.invariant-loop-index
invariant-loop-index g l =
    first_refused_after (λ _ key. not (contains g.K.PartialEq.eq l.known key)) (take l.index l.keys) (drop l.index l.keys) ≡ first_where (λ key. not (contains g.K.PartialEq.eq l.known key)) l.keys

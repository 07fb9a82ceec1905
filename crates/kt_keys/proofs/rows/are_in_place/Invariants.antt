use Rattle.std.proofs.Common.{◌≡◌, nat_eq, not, take, drop}
use Rattle.std.specs.List.{list_any}
use Rattle.kt_keys.specs.FirstRow.{first_where, first_refused_after}
use Rattle.kt_keys.proofs.rows.are_in_place.Given as goal

abbrev pub invariant-loop-id : goal.invariant-loop-id
invariant-loop-id l =
    first_refused_after (λ _ id. not (list_any (nat_eq id) l.known)) (take l.id-index l.ids) (drop l.id-index l.ids) ≡ first_where (λ id. not (list_any (nat_eq id) l.known)) l.ids

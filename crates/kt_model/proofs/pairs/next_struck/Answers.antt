use Rattle.std.proofs.Common.{rules, ltb, ◌≡◌, ◌≤◌, true, false, ℕ, subst, sym, List, length}
use Rattle.std.specs.List.Sorted.{IsNonDecreasingBy, IsPartitionPoint}
use Rattle.std.proofs.lemmas.List.Sorted.{IsNonDecreasingBy-drop, IsPartitionPoint-from_clause, IsPartitionedBy-ltb}
use Rattle.kt_model.proofs.PairLemmas.{passed_all, passed_between}
use Rattle.kt_model.proofs.pairs.next_struck.Goals as goal

pub returns-in_default-clause-passed : goal.returns-in_default-clause-passed
returns-in_default-clause-passed c = passed_all c.args.pairs.now c.args.rows.now c.args.place (0, 0) c.requires.pairs_rise (c.next_areaperil.ensures.none (search rules))

pub returns-clause-passed : goal.returns-clause-passed
returns-clause-passed c =
    let pairs = c.args.pairs.now in
    let later = c.from_place.result.now in
    let next = c.in-Some.next in
    let rise = subst (λ (list : List (ℕ × ℕ)). IsNonDecreasingBy (λ pair. pair.0) list) (sym c.from_place.ensures.value) (IsNonDecreasingBy-drop (λ (pair : ℕ × ℕ). pair.0) c.args.place pairs c.requires.pairs_rise) in
    let parted = IsPartitionPoint-from_clause (λ (pair : ℕ × ℕ). ltb pair.0 next) later _ c.partition_point.ensures.partitioned (IsPartitionedBy-ltb (λ (pair : ℕ × ℕ). pair.0) later next rise) (λ a r q k. search rules) in
    passed_between pairs c.args.rows.now c.args.place (0, 0) c.requires.pairs_rise next c.partition_point.result
    (subst (λ (list : List (ℕ × ℕ)). IsPartitionPoint (λ pair. ltb pair.0 next ≡ true) (λ pair. ltb pair.0 next ≡ false) list c.partition_point.result) c.from_place.ensures.value parted)
    (subst (λ (list : List (ℕ × ℕ)). c.partition_point.result ≤ length list) c.from_place.ensures.value c.partition_point.ensures.bound)
    (c.in-Some.ensures.some.1)

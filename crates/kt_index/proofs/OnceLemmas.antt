-- Ids that are put in order, each once.
use Rattle.std.proofs.Common.{◌≡◌, ℕ, suc, ◌<◌, List, [], ◌∷◌, nat_eq, arith}
use Rattle.std.specs.Cmp.{both_ways, nat_eq_equiv}
use Rattle.std.specs.List.{dedup, list_any}
use Rattle.std.specs.List.Sorted.{IsSorted, IsStrictlySortedBy}
use Rattle.std.specs.Ordering.{nat_cmp}
use Rattle.std.proofs.lemmas.Bool.{eqb-true}
use Rattle.std.proofs.lemmas.List.Elements.{recursion_from_All}
use Rattle.std.proofs.lemmas.List.Kept.{Contains-dedup_nat, Contains-from_dedup}
use Rattle.std.proofs.lemmas.Map.Keys.{IsStrictlyIncreasing-dedup, below_from_sorted, sorted_from_strictly_increasing, sorted_tail}
use Rattle.kt_rec.specs.Rising.{IsRising}
use Rattle.std.proofs.lemmas.Map.Views.{Contains-from_any, list_any-from_Contains}

-- sorted ids rise
rises : (ids : List ℕ) → IsStrictlySortedBy nat_cmp ids → IsRising ids
unfolding IsRising
rises [] sorted = tt
rises (id ∷ ids) sorted = (
  recursion_from_All (λ other. id < other) ids (λ k d below. below_from_sorted (id ∷ ids) 0 (suc k) d sorted (omega arith) (omega arith)),
  rises ids (sorted_tail nat_cmp id ids sorted),
)

-- what is left of ids in order rises
pub once_rising : (ids : List ℕ) → IsSorted nat_cmp ids → IsRising (dedup nat_eq ids)
once_rising ids sorted = rises (dedup nat_eq ids) (sorted_from_strictly_increasing (dedup nat_eq ids) (IsStrictlyIncreasing-dedup ids sorted))

-- and each id is there still
pub once_same : (ids : List ℕ) (id : ℕ) → list_any (nat_eq id) (dedup nat_eq ids) ≡ list_any (nat_eq id) ids
once_same ids id =
    both_ways _ _
    (λ found. list_any-from_Contains nat_eq_equiv id ids (Contains-from_dedup nat_eq ids id (Contains-from_any (λ x y. eqb-true x y) id (dedup nat_eq ids) found)))
    (λ found. list_any-from_Contains nat_eq_equiv id (dedup nat_eq ids) (Contains-dedup_nat ids id (Contains-from_any (λ x y. eqb-true x y) id ids found)))

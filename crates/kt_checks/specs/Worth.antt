-- What coverages are worth: those of distinct ids, and those of items one by one.
-- The rules: docs/CALCULATION.md, "Summary".
use Rattle.std.specs.Prelude.{◌≡◌, ℕ, ◌+◌, ◌≤◌, ◌<◌, ◌^◌, ◌||◌, nat_eq, Bool, true, false, cond, List, [], ◌∷◌, length, map, refl, Option, Some, All, unwrap_or}
use Rattle.std.specs.Cmp.{nat_eq_equiv}
use Rattle.std.specs.List.{AllByRecursion, IsDistinct, list_any, sum_by}
use Rattle.std.specs.Map.{lookup}
use Rattle.std.proofs.Common.{sym, subst, ap, ◌∙◌, arith, zero-add}
use Rattle.std.proofs.Math.Path.{fun_ext}
use Rattle.std.proofs.lemmas.Bool.{eqb-true}
use Rattle.std.proofs.lemmas.List.Sums.{sum_by-cons, sum_by-le, sum_by-le-sum_by}
use Rattle.std.proofs.lemmas.Map.Keys.{IsDistinct-head, IsDistinct-tail}
use Rattle.kt_rec.specs.Ranges.{IsCoverage}
use Rattle.kt_rec.specs.declared.exposure.Coverage.{Coverage}
use Rattle.kt_rec.specs.declared.exposure.Item.{Item}
use Rattle.kt_checks.specs.TableChecks.{tiv_of}

-- ---- distinct ids

-- a key that differs from all others is not among them
pub absent : (key : ℕ) (keys : List ℕ) → AllByRecursion (λ other. nat_eq key other ≡ false) keys → list_any (nat_eq key) keys ≡ false
absent key [] apart = refl
absent key (other ∷ keys) apart = ap (λ b. b || list_any (nat_eq key) keys) apart.0 ∙ absent key keys apart.1

-- the value of a coverage that is absent is 0
tiv_of-absent : (coverages : List Coverage) (id : ℕ) → list_any (nat_eq id) (map (λ row. row.coverage_id) coverages) ≡ false → tiv_of coverages id ≡ 0
tiv_of-absent [] id h = refl
tiv_of-absent (row ∷ coverages) id h = by (nat_eq id row.coverage_id) (tiv_of-absent coverages id) h
  where
    by : (b : Bool) → (list_any (nat_eq id) (map (λ x. x.coverage_id) coverages) ≡ false → tiv_of coverages id ≡ 0) → (b || list_any (nat_eq id) (map (λ x. x.coverage_id) coverages)) ≡ false → unwrap_or (cond b (Some row.tiv) (lookup (nat_eq id) (map (λ x. (x.coverage_id, x.tiv)) coverages))) 0 ≡ 0
    by true rest e = cc
    by false rest e = rest e

-- the sum of values over distinct ids, of which one may have another value in place of 0
sum-one : (value : ℕ → ℕ) (key amount : ℕ) → value key ≡ 0 → (ids : List ℕ) → IsDistinct nat_eq ids → sum_by (λ id. cond (nat_eq id key) amount (value id)) ids ≡ cond (list_any (nat_eq key) ids) amount 0 + sum_by value ids
sum-one value key amount zero [] apart = refl
sum-one value key amount zero (id ∷ ids) apart =
    sum_by-cons (λ x. cond (nat_eq x key) amount (value x)) id ids
    ∙ (by (nat_eq id key) refl (sum-one value key amount zero ids (IsDistinct-tail nat_eq id ids apart)) (absent id ids (IsDistinct-head nat_eq id ids apart))
    ∙ ap (λ n. cond (list_any (nat_eq key) (id ∷ ids)) amount 0 + n) (sym (sum_by-cons value id ids)))
  where
    by : (b : Bool) → nat_eq id key ≡ b → sum_by (λ x. cond (nat_eq x key) amount (value x)) ids ≡ cond (list_any (nat_eq key) ids) amount 0 + sum_by value ids → list_any (nat_eq id) ids ≡ false → cond (nat_eq id key) amount (value id) + sum_by (λ x. cond (nat_eq x key) amount (value x)) ids ≡ cond (nat_eq key id || list_any (nat_eq key) ids) amount 0 + (value id + sum_by value ids)
    by true e rest none =
        let same : id ≡ key = eqb-true id key e in
        let gone : list_any (nat_eq key) ids ≡ false = subst (λ n. list_any (nat_eq n) ids ≡ false) same none in
        let nothing : value id ≡ 0 = ap value same ∙ zero in
        rw (e, nat_eq_equiv.symm key id, e, rest, gone, nothing) refl
    by false e rest none = rw (e, nat_eq_equiv.symm key id, e, rest) (omega arith)

-- the values of distinct ids that pass a test are those of the distinct coverages that pass it
pub total_is : (coverages : List Coverage) → IsDistinct nat_eq (map (λ row. row.coverage_id) coverages) → (test : ℕ → Bool) (ids : List ℕ) → IsDistinct nat_eq ids → ((id : ℕ) → list_any (nat_eq id) ids ≡ test id) → sum_by (tiv_of coverages) ids ≡ sum_by (λ row. cond (test row.coverage_id) row.tiv 0) coverages
total_is [] apart test ids distinct passing = zeros ids
  where
    zeros : (ids : List ℕ) → sum_by (tiv_of []) ids ≡ 0
    zeros [] = refl
    zeros (id ∷ ids) = sum_by-cons (tiv_of []) id ids ∙ (zero-add (sum_by (tiv_of []) ids) ∙ zeros ids)
total_is (row ∷ coverages) apart test ids distinct passing =
    ap (λ value. sum_by value ids) (fun_ext (λ (id : ℕ). value_is (lookup (nat_eq id) (map (λ x. (x.coverage_id, x.tiv)) coverages)) (nat_eq id row.coverage_id)))
    ∙ (sum-one (tiv_of coverages) row.coverage_id row.tiv (tiv_of-absent coverages row.coverage_id (absent row.coverage_id _ (IsDistinct-head nat_eq row.coverage_id (map (λ x. x.coverage_id) coverages) apart))) ids distinct
    ∙ (ap (λ b. cond b row.tiv 0 + sum_by (tiv_of coverages) ids) (passing row.coverage_id)
    ∙ (ap (λ n. cond (test row.coverage_id) row.tiv 0 + n) (total_is coverages (IsDistinct-tail nat_eq row.coverage_id (map (λ x. x.coverage_id) coverages) apart) test ids distinct passing)
    ∙ sym (sum_by-cons (λ x. cond (test x.coverage_id) x.tiv 0) row coverages))))
  where
    value_is : (found : Option ℕ) (b : Bool) → unwrap_or (cond b (Some row.tiv) found) 0 ≡ cond b row.tiv (unwrap_or found 0)
    value_is found true = refl
    value_is found false = refl

-- the values of few coverages do not add to 2^64
pub values-few : (coverages : List Coverage) → IsDistinct nat_eq (map (λ row. row.coverage_id) coverages) → All IsCoverage coverages → length coverages ≤ 100000 → (ids : List ℕ) → IsDistinct nat_eq ids → sum_by (tiv_of coverages) ids < 2 ^ 64
values-few coverages apart ranges few ids distinct =
    let same = total_is coverages apart (λ id. list_any (nat_eq id) ids) ids distinct (λ id. refl) in
    let most = sum_by-le (λ (row : Coverage). row.tiv) 100000000000000 coverages (λ k d below. (ranges k d below).tiv) in
    let less = sum_by-le-sum_by (λ (row : Coverage). cond (list_any (nat_eq row.coverage_id) ids) row.tiv 0) (λ (row : Coverage). row.tiv) coverages (λ (row : Coverage). at_most (list_any (nat_eq row.coverage_id) ids) row.tiv) in
    omega (arith, same, most, less)
  where
    at_most : (b : Bool) (n : ℕ) → cond b n 0 ≤ n
    at_most true n = omega arith
    at_most false n = omega arith

-- ---- items one by one

-- a sum of sums
sum_both : {X : Type 0} (f g : X → ℕ) (xs : List X) → sum_by (λ x. f x + g x) xs ≡ sum_by f xs + sum_by g xs
sum_both f g [] = refl
sum_both f g (x ∷ xs) = omega (arith, sum_by-cons (λ x. f x + g x) x xs, sum_by-cons f x xs, sum_by-cons g x xs, sum_both f g xs)

-- a sum of nothing
sum_none : {X : Type 0} (xs : List X) → sum_by (λ (x : X). 0) xs ≡ 0
sum_none [] = refl
sum_none (x ∷ xs) = omega (arith, sum_by-cons (λ x. 0) x xs, sum_none xs)

-- a value of one or the other is at most both
either_le : (a b : Bool) (n : ℕ) → cond (a || b) n 0 ≤ cond a n 0 + cond b n 0
either_le true b n = omega arith
either_le false b n = omega arith

-- nothing more
or_false : (b : Bool) → (b || false) ≡ b
or_false true = refl
or_false false = refl

-- the coverages of items are worth at most what the items' coverages are, one for each item
pub covered_le : (coverages : List Coverage) → IsDistinct nat_eq (map (λ row. row.coverage_id) coverages) → (items : List Item) → sum_by (λ row. cond (list_any (λ item. nat_eq item.coverage_id row.coverage_id) items) row.tiv 0) coverages ≤ sum_by (λ item. tiv_of coverages item.coverage_id) items
unfolding IsDistinct
covered_le coverages apart [] = omega (arith, sum_none coverages)
covered_le coverages apart (item ∷ items) =
    omega (
      arith,
      sum_by-le-sum_by (λ (row : Coverage). cond (nat_eq item.coverage_id row.coverage_id || list_any (λ x. nat_eq x.coverage_id row.coverage_id) items) row.tiv 0) (λ row. cond (nat_eq item.coverage_id row.coverage_id) row.tiv 0 + cond (list_any (λ x. nat_eq x.coverage_id row.coverage_id) items) row.tiv 0) coverages (λ row. either_le (nat_eq item.coverage_id row.coverage_id) (list_any (λ x. nat_eq x.coverage_id row.coverage_id) items) row.tiv),
      sum_both (λ (row : Coverage). cond (nat_eq item.coverage_id row.coverage_id) row.tiv 0) (λ row. cond (list_any (λ x. nat_eq x.coverage_id row.coverage_id) items) row.tiv 0) coverages,
      total_is coverages apart (nat_eq item.coverage_id) (item.coverage_id ∷ []) (tt, tt) (λ id. or_false (nat_eq id item.coverage_id) ∙ nat_eq_equiv.symm id item.coverage_id),
      sum_by-cons (tiv_of coverages) item.coverage_id [],
      covered_le coverages apart items,
      sum_by-cons (λ (x : Item). tiv_of coverages x.coverage_id) item items,
    )

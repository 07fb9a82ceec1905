-- Ids and their places, and lists that are looked up by them.
-- The rule: docs/FINANCIAL_MODULE.md, "Allocation".
use Rattle.std.specs.Prelude.{◌≡◌, ℕ, zero, suc, ◌<◌, ◌≤◌, ◌||◌, Bool, true, false, cond, nat_eq, List, [], ◌∷◌, ◌++◌, Some, None, length, slice_index, unwrap_or}
use Rattle.std.specs.Cmp.{nat_eq_equiv}
use Rattle.std.specs.List.{AllByRecursion, filter, list_any, sum, zip}
use Rattle.std.specs.Map.{lookup}
use Rattle.std.proofs.Common.{inl, inr, refl, sym, ap, ◌∙◌, arith}
use Rattle.std.proofs.lemmas.Bool.{cases_lt, eqb-true, eqb-false}
use Rattle.std.proofs.lemmas.Bool.Decides.{nat_tests}
use Rattle.std.proofs.lemmas.List.Sums.{sum_by-cons}
use Rattle.kt_rec.specs.Rising.{IsRising}

-- ---- places

-- the id in a place is one of the ids
pub member-at : (ids : List ℕ) (place : ℕ) → place < length ids → list_any (nat_eq (slice_index ids place)) ids ≡ true
member-at [] place below = absurd (omega arith)
member-at (id ∷ ids) zero below = ap (λ b. b || list_any (nat_eq id) ids) (nat_eq_equiv.refl id)
member-at (id ∷ ids) (suc place) below = by (nat_eq (slice_index ids place) id) (member-at ids place (omega arith))
  where
    by : (b : Bool) → list_any (nat_eq (slice_index ids place)) ids ≡ true → (b || list_any (nat_eq (slice_index ids place)) ids) ≡ true
    by true rest = refl
    by false rest = rest

-- an id later among rising ones is above
later-above : (ids : List ℕ) → IsRising ids → (i j : ℕ) → i < j → j < length ids → slice_index ids i < slice_index ids j
unfolding IsRising
later-above [] rises i j less below = absurd (omega arith)
later-above (id ∷ ids) rises i zero less below = absurd (omega arith)
later-above (id ∷ ids) rises zero (suc j) less below = above ids rises.0 j (omega arith)
  where
    above : (others : List ℕ) → AllByRecursion (λ other. id < other) others → (j : ℕ) → j < length others → id < slice_index others j
    above [] all j below = absurd (omega arith)
    above (other ∷ others) all zero below = all.0
    above (other ∷ others) all (suc j) below = above others all.1 j (omega arith)
later-above (id ∷ ids) rises (suc i) (suc j) less below = later-above ids rises.1 i j (omega arith) (omega arith)

-- an id has one place
pub same-place : (ids : List ℕ) → IsRising ids → (one other : ℕ) → one < length ids → other < length ids → nat_eq one other ≡ nat_eq (slice_index ids one) (slice_index ids other)
same-place ids rises one other below inside = by (nat_eq one other) refl
  where
    apart : (a b : ℕ) → a < b → (nat_eq a b ≡ false) × (nat_eq b a ≡ false)
    apart a b less = (grind (arith, nat_tests), grind (arith, nat_tests))

    by : (b : Bool) → nat_eq one other ≡ b → b ≡ nat_eq (slice_index ids one) (slice_index ids other)
    by true is = sym (nat_eq_equiv.refl (slice_index ids one)) ∙ ap (λ n. nat_eq (slice_index ids one) (slice_index ids n)) (eqb-true one other is)
    by false is = let differ = eqb-false one other is in elim (cases_lt one other) [
      | inl less ↦ sym (apart (slice_index ids one) (slice_index ids other) (later-above ids rises one other less inside)).0
      | inr most ↦ sym (apart (slice_index ids other) (slice_index ids one) (later-above ids rises other one (omega arith) below)).1
    ]

-- ---- lookups

-- lists behind each other, paired
pub zip-append : {K X : Type 0} (ks ls : List K) (xs ys : List X) → length ks ≡ length xs → zip (ks ++ ls) (xs ++ ys) ≡ zip ks xs ++ zip ls ys
zip-append [] ls [] ys same = refl
zip-append [] ls (x ∷ xs) ys same = absurd (omega arith)
zip-append (k ∷ ks) ls [] ys same = absurd (omega arith)
zip-append (k ∷ ks) ls (x ∷ xs) ys same = ap (λ rest. (k, x) ∷ rest) (zip-append ks ls xs ys (omega arith))

-- an id that is not among ids is not found
pub lookup-none : (id : ℕ) (ids values : List ℕ) → list_any (nat_eq id) ids ≡ false → lookup (nat_eq id) (zip ids values) ≡ None
lookup-none id [] values none = refl
lookup-none id (other ∷ ids) [] none = refl
lookup-none id (other ∷ ids) (value ∷ values) none = by (nat_eq id other) none (lookup-none id ids values)
  where
    by : (b : Bool) → (b || list_any (nat_eq id) ids) ≡ false → (list_any (nat_eq id) ids ≡ false → lookup (nat_eq id) (zip ids values) ≡ None) → cond b (Some value) (lookup (nat_eq id) (zip ids values)) ≡ None
    by true none rest = let clash : true ≡ false = none in cc
    by false none rest = rest none

-- what is found is not more than all
pub lookup-few : {K : Type 0} (test : K → Bool) (keys : List K) (values : List ℕ) → unwrap_or (lookup test (zip keys values)) 0 ≤ sum values
lookup-few test [] values = omega arith
lookup-few test (key ∷ keys) [] = omega arith
lookup-few test (key ∷ keys) (value ∷ values) = by (test key) (lookup-few test keys values)
  where
    by : (b : Bool) → unwrap_or (lookup test (zip keys values)) 0 ≤ sum values → unwrap_or (cond b (Some value) (lookup test (zip keys values))) 0 ≤ sum (value ∷ values)
    by true rest = omega (arith, sum_by-cons (λ (n : ℕ). n) value values)
    by false rest = omega (arith, rest, sum_by-cons (λ (n : ℕ). n) value values)

-- an id is not among those that pass a test which it fails
pub filter-absent : (test : ℕ → Bool) (id : ℕ) (ids : List ℕ) → test id ≡ false → list_any (nat_eq id) (filter test ids) ≡ false
filter-absent test id [] fails = refl
filter-absent test id (other ∷ ids) fails = by (nat_eq id other) refl (test other) refl (filter-absent test id ids fails)
  where
    by : (a : Bool) → nat_eq id other ≡ a → (b : Bool) → test other ≡ b → list_any (nat_eq id) (filter test ids) ≡ false → list_any (nat_eq id) (cond b (other ∷ filter test ids) (filter test ids)) ≡ false
    by a same false other_fails rest = rest
    by true same true passes rest = let clash : true ≡ false = sym passes ∙ (ap test (sym (eqb-true id other same)) ∙ fails) in cc
    by false same true passes rest = ap (λ c. c || list_any (nat_eq id) (filter test ids)) same ∙ rest

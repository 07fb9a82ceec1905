-- The places of rising ids are found by halving; and what is made of rising ids, each once at the most, rises.
-- The rule: docs/FINANCIAL_MODULE.md, "Levels".
use Rattle.std.specs.Prelude.{◌≡◌, ℕ, zero, suc, ◌+◌, ◌<◌, ◌≤◌, Bool, true, false, cond, List, [], ◌∷◌, length, map, nat_eq, Err, Option, None, Some, ◌||◌}
use Rattle.std.specs.List.{AllByRecursion, cons_option, filter, filter_map, list_any}
use Rattle.std.specs.List.Sorted.{IsBinarySearchResult, IsStrictlyIncreasing}
use Rattle.std.specs.Ordering.{nat_cmp}
use Rattle.std.proofs.Common.{get_or, refl, sym, subst, arith, inl, inr}
use Rattle.std.proofs.lemmas.Bool.{eqb-true, true≢false, cases_lt}
use Rattle.std.proofs.lemmas.List.Sorted.{searched}
use Rattle.kt_rec.specs.Rising.{IsRising, above-all}

-- rising ids do not fall
pub rising-order : (ids : List ℕ) → IsRising ids → (i j : ℕ) → i ≤ j → j < length ids → get_or ids i 0 ≤ get_or ids j 0
unfolding IsRising
rising-order [] rises i j less below = absurd (omega arith)
rising-order (id ∷ ids) rises zero zero less below = omega arith
rising-order (id ∷ ids) rises zero (suc j) less below = let up = above-at ids rises.0 j (omega arith) in omega arith
  where
    above-at : (others : List ℕ) → AllByRecursion (λ other. id < other) others → (j : ℕ) → j < length others → id < get_or others j 0
    above-at [] all j below = absurd (omega arith)
    above-at (other ∷ others) all zero below = all.0
    above-at (other ∷ others) all (suc j) below = above-at others all.1 j (omega arith)
rising-order (id ∷ ids) rises (suc i) zero less below = absurd (omega arith)
rising-order (id ∷ ids) rises (suc i) (suc j) less below = rising-order ids rises.1 i j (omega arith) (omega arith)

-- an id that is among others has a place
pub place-of : (id : ℕ) (ids : List ℕ) → list_any (nat_eq id) ids ≡ true → (k : ℕ) × (k < length ids) × (get_or ids k 0 ≡ id)
place-of id [] member = absurd (true≢false (sym member))
place-of id (first ∷ ids) member = by (nat_eq id first) refl member (place-of id ids)
  where
    by : (b : Bool) → nat_eq id first ≡ b → (b || list_any (nat_eq id) ids) ≡ true → (list_any (nat_eq id) ids ≡ true → (k : ℕ) × (k < length ids) × (get_or ids k 0 ≡ id)) → (k : ℕ) × (k < length (first ∷ ids)) × (get_or (first ∷ ids) k 0 ≡ id)
    by true is member rest = (0, omega arith, sym (eqb-true id first is))
    by false is member rest = let found = rest member in (suc found.0, (let h = found.1 in omega arith), found.2)

-- a search finds each id that is there
pub not-missed : (ids : List ℕ) (id at : ℕ) → IsRising ids → list_any (nat_eq id) ids ≡ true → IsBinarySearchResult (λ other. nat_cmp other id) ids (Err at) → ⊥
not-missed ids id at rises member missed =
    let found = place-of id ids member in
    let parts = searched ids id (Err at) missed (rising-order ids rises) in
    elim (cases_lt found.0 at) [
      | inl before ↦ let low = parts.1 found.0 before in let here = found.2 in omega arith
      | inr behind ↦ let high = parts.2 found.0 behind found.1 in let here = found.2 in omega arith
    ]

-- those of rising ids that pass a test rise
pub rising-filter : (test : ℕ → Bool) (ids : List ℕ) → IsRising ids → IsRising (filter test ids)
unfolding IsRising
rising-filter test [] rises = tt
rising-filter test (id ∷ ids) rises = by (test id) (rising-filter test ids rises.1)
  where
    above : (rest : List ℕ) → AllByRecursion (λ other. id < other) rest → AllByRecursion (λ other. id < other) (filter test rest)
    above [] all = tt
    above (other ∷ rest) all = kept (test other) (above rest all.1)
      where
        kept : (b : Bool) → AllByRecursion (λ next. id < next) (filter test rest) → AllByRecursion (λ next. id < next) (cond b (other ∷ filter test rest) (filter test rest))
        kept true passed = (all.0, passed)
        kept false passed = passed

    by : (b : Bool) → IsRising (filter test ids) → IsRising (cond b (id ∷ filter test ids) (filter test ids))
    by true passed = (above ids rises.0, passed)
    by false passed = passed

-- ---- each below the next

-- numbers that are each below the next rise
pub rises-from_strict : (xs : List ℕ) → IsStrictlyIncreasing xs → IsRising xs
unfolding IsRising
rises-from_strict [] strict = tt
rises-from_strict (x ∷ xs) strict =
    let rest = rises-from_strict xs (λ k below. let e : suc k + 1 ≡ suc (k + 1) = omega arith in subst (λ n. get_or xs k 0 < get_or (x ∷ xs) n 0) e (strict (suc k) (omega arith))) in
    (first xs rest (λ some. strict 0 (omega arith)), rest)
  where
    first : (xs : List ℕ) → IsRising xs → (0 < length xs → x < get_or xs 0 0) → AllByRecursion (λ other. x < other) xs
    first [] rises below = tt
    first (y ∷ ys) rises below = let less = below (omega arith) in (less, above-all x y ys (omega arith) rises.0)

-- and numbers that rise are each below the next
pub strict-from_rises : (xs : List ℕ) → IsRising xs → IsStrictlyIncreasing xs
unfolding IsRising
strict-from_rises [] rises k below = absurd (omega arith)
strict-from_rises (x ∷ []) rises k below = absurd (omega arith)
strict-from_rises (x ∷ y ∷ xs) rises zero below = rises.0.0
strict-from_rises (x ∷ y ∷ xs) rises (suc k) below = let e : suc (k + 1) ≡ suc k + 1 = omega arith in subst (λ n. get_or (y ∷ xs) k 0 < get_or (x ∷ y ∷ xs) n 0) e (strict-from_rises (y ∷ xs) rises.1 k (omega arith))

-- ---- what is made of rising ids

-- what may be made of an id has that id
abbrev pub KeepsId : {Y : Type 0} → (Y → ℕ) → ℕ → Option Y → Type 0
KeepsId id_of id None = Unit {0}
KeepsId id_of id (Some y) = id_of y ≡ id

-- what is made of some whose ids rise, each with its id, has rising ids
pub rising-made : {X Y : Type 0} (id_of : X → ℕ) (own : Y → ℕ) (make : X → Option Y) → ((x : X) → KeepsId own (id_of x) (make x)) → (xs : List X) → IsRising (map id_of xs) → IsRising (map own (filter_map make xs))
unfolding IsRising
rising-made id_of own make keeps [] rises = tt
rising-made {X = X} {Y = Y} id_of own make keeps (x ∷ xs) rises = by (make x) (keeps x) (rising-made id_of own make keeps xs rises.1)
  where
    kept : (P : ℕ → Type 0) (rest : List X) → AllByRecursion P (map id_of rest) → AllByRecursion P (map own (filter_map make rest))
    kept P [] all = tt
    kept P (next ∷ rest) all = step (make next) (keeps next) (kept P rest all.1)
      where
        step : (made : Option Y) → KeepsId own (id_of next) made → AllByRecursion P (map own (filter_map make rest)) → AllByRecursion P (map own (cons_option made (filter_map make rest)))
        step None same more = more
        step (Some y) same more = (subst P (sym same) all.0, more)

    by : (made : Option Y) → KeepsId own (id_of x) made → IsRising (map own (filter_map make xs)) → IsRising (map own (cons_option made (filter_map make xs)))
    by None same rest = rest
    by (Some y) same rest = (subst (λ n. AllByRecursion (λ other. n < other) (map own (filter_map make xs))) (sym same) (kept (λ other. id_of x < other) xs rises.0), rest)

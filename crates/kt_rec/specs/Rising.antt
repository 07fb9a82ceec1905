-- Ids by rising number, each once.
-- The rule: docs/FINANCIAL_MODULE.md, "Levels".
use Rattle.std.specs.Prelude.{◌≡◌, ◌⊎◌, ℕ, ◌<◌, ◌≤◌, ◌||◌, Bool, true, false, cond, nat_eq, nat_lt, List, [], ◌∷◌}
use Rattle.std.specs.List.{AllByRecursion, IsDistinct, list_any}
use Rattle.std.specs.Cmp.{nat_eq_equiv}
use Rattle.std.proofs.Common.{inl, inr, refl, sym, ap, ◌∙◌, arith}
use Rattle.std.proofs.lemmas.Bool.{cases_lt, eqb-true, eqb-false, le-ltb, lt-ltb, ltb-true, ltb-false, true≢false}
use Rattle.std.proofs.lemmas.Bool.Decides.{nat_tests}

-- an id among rising ones, where it is not there yet
abbrev pub put : ℕ → List ℕ → List ℕ
put id [] = id ∷ []
put id (first ∷ ids) = cond (nat_lt id first) (id ∷ (first ∷ ids)) (cond (nat_eq id first) (first ∷ ids) (first ∷ put id ids))

-- ids by rising number, each once
abbrev pub rising : List ℕ → List ℕ
rising [] = []
rising (id ∷ ids) = put id (rising ids)

-- each id is below those behind it
unfoldable pub IsRising : List ℕ → Type 0
IsRising [] = Unit {0}
IsRising (id ∷ ids) = AllByRecursion (λ other. id < other) ids × IsRising ids

-- ---- what is among them

-- an id that was put is among them, and those that were
pub put-member : (id : ℕ) (ids : List ℕ) (other : ℕ) → list_any (nat_eq other) (put id ids) ≡ (nat_eq other id || list_any (nat_eq other) ids)
put-member id [] other = refl
put-member id (first ∷ ids) other = by (nat_lt id first) (nat_eq id first) refl (put-member id ids other)
  where
    swap : (a b c : Bool) → (a || (b || c)) ≡ (b || (a || c))
    swap true true c = refl
    swap true false c = refl
    swap false b c = refl

    again : (a c : Bool) → (a || c) ≡ (a || (a || c))
    again true c = refl
    again false c = refl

    by : (below same : Bool) → nat_eq id first ≡ same → list_any (nat_eq other) (put id ids) ≡ (nat_eq other id || list_any (nat_eq other) ids) → list_any (nat_eq other) (cond below (id ∷ (first ∷ ids)) (cond same (first ∷ ids) (first ∷ put id ids))) ≡ (nat_eq other id || (nat_eq other first || list_any (nat_eq other) ids))
    by true same is rest = refl
    by false true is rest = let e = eqb-true id first is in rw e (again (nat_eq other first) (list_any (nat_eq other) ids))
    by false false is rest = ap (λ b. nat_eq other first || b) rest ∙ swap (nat_eq other first) (nat_eq other id) (list_any (nat_eq other) ids)

-- the rising ids are the ids
pub rising-member : (ids : List ℕ) (other : ℕ) → list_any (nat_eq other) (rising ids) ≡ list_any (nat_eq other) ids
rising-member [] other = refl
rising-member (id ∷ ids) other = put-member id (rising ids) other ∙ ap (λ b. nat_eq other id || b) (rising-member ids other)

-- an id below all stands first
pub put-first : (id : ℕ) (ids : List ℕ) → AllByRecursion (λ other. id < other) ids → put id ids ≡ id ∷ ids
put-first id [] above = refl
put-first id (other ∷ ids) above = ap (λ b. cond b (id ∷ other ∷ ids) (cond (nat_eq id other) (other ∷ ids) (other ∷ put id ids))) (lt-ltb id other above.0)

-- an id that stands first is not put there again
pub put-again : (id : ℕ) (ids : List ℕ) → put id (id ∷ ids) ≡ id ∷ ids
put-again id ids =
    ap (λ b. cond b (id ∷ id ∷ ids) (cond (nat_eq id id) (id ∷ ids) (id ∷ put id ids))) (le-ltb id id (omega arith))
    ∙ ap (λ b. cond b (id ∷ ids) (id ∷ put id ids)) (nat_eq_equiv.refl id)

-- ---- their order

-- what holds of an id and of others holds of them with it put among them
pub put-all : (P : ℕ → Type 0) (id : ℕ) (ids : List ℕ) → P id → AllByRecursion P ids → AllByRecursion P (put id ids)
put-all P id [] here all = (here, tt)
put-all P id (first ∷ ids) here all = by (nat_lt id first) (nat_eq id first) (put-all P id ids here all.1)
  where
    by : (below same : Bool) → AllByRecursion P (put id ids) → AllByRecursion P (cond below (id ∷ (first ∷ ids)) (cond same (first ∷ ids) (first ∷ put id ids)))
    by true same rest = (here, all)
    by false true rest = all
    by false false rest = (all.0, rest)

-- what holds of ids holds of them rising
pub rising-all : (P : ℕ → Type 0) (ids : List ℕ) → AllByRecursion P ids → AllByRecursion P (rising ids)
rising-all P [] all = tt
rising-all P (id ∷ ids) all = put-all P id (rising ids) all.0 (rising-all P ids all.1)

-- ids above one are above a lower one
pub above-all : (low high : ℕ) (ids : List ℕ) → low ≤ high → AllByRecursion (λ other. high < other) ids → AllByRecursion (λ other. low < other) ids
above-all low high [] less above = tt
above-all low high (id ∷ ids) less above = (omega (arith, above.0), above-all low high ids less above.1)

-- an id that is put among rising ones
pub put-rising : (id : ℕ) (ids : List ℕ) → IsRising ids → IsRising (put id ids)
unfolding IsRising
put-rising id [] rises = (tt, tt)
put-rising id (first ∷ ids) rises = by (nat_lt id first) (nat_eq id first) refl refl (put-rising id ids rises.1)
  where
    by : (below same : Bool) → nat_lt id first ≡ below → nat_eq id first ≡ same → IsRising (put id ids) → IsRising (cond below (id ∷ (first ∷ ids)) (cond same (first ∷ ids) (first ∷ put id ids)))
    by true same is other rest = let less = ltb-true id first is in ((less, above-all id first ids (omega arith) rises.0), rises)
    by false true is other rest = rises
    by false false is other rest = let least = ltb-false id first is in let apart = eqb-false id first other in (put-all (λ other. first < other) id ids (omega arith) rises.0, rest)

-- rising ids rise
pub rising-rises : (ids : List ℕ) → IsRising (rising ids)
unfolding IsRising
rising-rises [] = tt
rising-rises (id ∷ ids) = put-rising id (rising ids) (rising-rises ids)

-- a number is not one above it
apart : (low high : ℕ) → low < high → nat_eq low high ≡ false
apart low high less = grind (arith, nat_tests)

-- ids that rise are distinct
pub distinct-from_rising : (ids : List ℕ) → IsRising ids → IsDistinct nat_eq ids
unfolding IsRising IsDistinct
distinct-from_rising [] rises = tt
distinct-from_rising (id ∷ ids) rises = (others ids rises.0, distinct-from_rising ids rises.1)
  where
    others : (ids : List ℕ) → AllByRecursion (λ other. id < other) ids → AllByRecursion (λ other. nat_eq id other ≡ false) ids
    others [] above = tt
    others (other ∷ ids) above = (apart id other above.0, others ids above.1)

-- rising ids are distinct
pub rising-distinct : (ids : List ℕ) → IsDistinct nat_eq (rising ids)
rising-distinct ids = distinct-from_rising (rising ids) (rising-rises ids)

-- ---- rising ids are told by what is among them

-- the first is among its own
first-member : (id : ℕ) (ids : List ℕ) → list_any (nat_eq id) (id ∷ ids) ≡ true
first-member id ids = ap (λ b. b || list_any (nat_eq id) ids) (nat_eq_equiv.refl id)

-- an id below all is not among them
below-member : (id : ℕ) (ids : List ℕ) → AllByRecursion (λ other. id < other) ids → list_any (nat_eq id) ids ≡ false
below-member id [] above = refl
below-member id (other ∷ ids) above = ap (λ b. b || list_any (nat_eq id) ids) (apart id other above.0) ∙ below-member id ids above.1

-- the first of rising ids is not above one that is among them
first-least : (x y : ℕ) (xs ys : List ℕ) → AllByRecursion (λ other. y < other) ys → list_any (nat_eq x) (x ∷ xs) ≡ list_any (nat_eq x) (y ∷ ys) → y ≤ x
first-least x y xs ys above same = by (cases_lt x y)
  where
    by : (x < y) ⊎ (y ≤ x) → y ≤ x
    by (inr least) = least
    by (inl less) = absurd (true≢false (sym (first-member x xs) ∙ (same ∙ below-member x (y ∷ ys) (less, above-all x y ys (omega arith) above))))

-- two rising lists with the same ids are one
pub rising-unique : (one other : List ℕ) → IsRising one → IsRising other → ((id : ℕ) → list_any (nat_eq id) one ≡ list_any (nat_eq id) other) → one ≡ other
unfolding IsRising
rising-unique [] [] rises rises_too same = refl
rising-unique [] (y ∷ ys) rises rises_too same = absurd (true≢false (sym (same y ∙ first-member y ys)))
rising-unique (x ∷ xs) [] rises rises_too same = absurd (true≢false (sym (first-member x xs) ∙ same x))
rising-unique (x ∷ xs) (y ∷ ys) rises rises_too same = ap (λ id. id ∷ xs) first ∙ ap (λ ids. y ∷ ids) (rising-unique xs ys rises.1 rises_too.1 (λ id. later id (nat_eq id x) refl))
  where
    first : x ≡ y
    first = let low = first-least x y xs ys rises_too.0 (same x) in let high = first-least y x ys xs rises.0 (sym (same y)) in omega arith

    later : (id : ℕ) (b : Bool) → nat_eq id x ≡ b → list_any (nat_eq id) xs ≡ list_any (nat_eq id) ys
    later id true is =
        let own = eqb-true id x is in
        ap (λ n. list_any (nat_eq n) xs) own ∙ (below-member x xs rises.0 ∙ (sym (below-member y ys rises_too.0) ∙ ap (λ n. list_any (nat_eq n) ys) (sym (own ∙ first))))
    later id false is = ap (λ b. b || list_any (nat_eq id) xs) (sym is) ∙ (same id ∙ ap (λ b. b || list_any (nat_eq id) ys) (ap (nat_eq id) (sym first) ∙ is))

-- What is among those of a list that pass a test.
-- The rule: docs/FINANCIAL_MODULE.md, "Levels".
use Rattle.std.specs.Prelude.{◌≡◌, ℕ, ◌&&◌, ◌||◌, Bool, true, false, cond, nat_eq, List, [], ◌∷◌, map, Some, unwrap_or}
use Rattle.std.specs.Cmp.{nat_eq_equiv}
use Rattle.std.specs.List.{filter, list_any, zip}
use Rattle.std.specs.Map.{lookup}
use Rattle.std.proofs.Common.{slice_index, suc, refl, sym, ap, ◌∙◌}
use Rattle.std.proofs.lemmas.Bool.{eqb-true, or_left, or_right}

-- what passes one test passes another that follows from it
pub any-then : (one other : ℕ → Bool) → ((x : ℕ) → one x ≡ true → other x ≡ true) → (xs : List ℕ) → list_any one xs ≡ true → list_any other xs ≡ true
any-then one other follows [] some = some
any-then one other follows (x ∷ xs) some = by (one x) refl some (any-then one other follows xs)
  where
    by : (b : Bool) → one x ≡ b → (b || list_any one xs) ≡ true → (list_any one xs ≡ true → list_any other xs ≡ true) → (other x || list_any other xs) ≡ true
    by true here some rest = or_left (other x) (list_any other xs) (follows x here)
    by false here some rest = or_right (other x) (list_any other xs) (rest some)

-- one of the list that passes a test
pub any-of : (test : ℕ → Bool) (id : ℕ) (ids : List ℕ) → list_any (nat_eq id) ids ≡ true → test id ≡ true → list_any test ids ≡ true
any-of test id ids member passes = any-then (nat_eq id) test (λ other same. ap test (sym (eqb-true id other same)) ∙ passes) ids member

-- equality, the other way round
pub any-turned : (id : ℕ) (ids : List ℕ) → list_any (λ other. nat_eq other id) ids ≡ list_any (nat_eq id) ids
any-turned id [] = refl
any-turned id (other ∷ ids) = rw (nat_eq_equiv.symm other id, any-turned id ids) refl

-- an id is among those that pass a test where it passes it and is among all
pub member-filter : (test : ℕ → Bool) (id : ℕ) (ids : List ℕ) → list_any (nat_eq id) (filter test ids) ≡ (test id && list_any (nat_eq id) ids)
member-filter test id [] = by (test id)
  where
    by : (b : Bool) → false ≡ (b && false)
    by true = refl
    by false = refl
member-filter test id (first ∷ ids) = by (nat_eq id first) refl (test first) refl (member-filter test id ids)
  where
    by : (same : Bool) → nat_eq id first ≡ same → (kept : Bool) → test first ≡ kept → list_any (nat_eq id) (filter test ids) ≡ (test id && list_any (nat_eq id) ids) → list_any (nat_eq id) (cond kept (first ∷ filter test ids) (filter test ids)) ≡ (test id && (same || list_any (nat_eq id) ids))
    by true same true kept rest = ap (λ b. b || list_any (nat_eq id) (filter test ids)) same ∙ sym (ap (λ b. b && true) (ap test (eqb-true id first same) ∙ kept))
    by true same false kept rest =
        let fails : test id ≡ false = ap test (eqb-true id first same) ∙ kept in
        rest ∙ rw fails refl
    by false same true kept rest = ap (λ b. b || list_any (nat_eq id) (filter test ids)) same ∙ rest
    by false same false kept rest = rest

-- of those that pass one test, those that pass another, where the second says the same of them as a third
pub filter-both : (one other third : ℕ → Bool) → ((x : ℕ) → one x ≡ true → other x ≡ third x) → (xs : List ℕ) → filter other (filter one xs) ≡ filter one (filter third xs)
filter-both one other third same [] = refl
filter-both one other third same (x ∷ xs) = by (one x) refl (third x) refl (filter-both one other third same xs)
  where
    by : (a : Bool) → one x ≡ a → (b : Bool) → third x ≡ b → filter other (filter one xs) ≡ filter one (filter third xs) → filter other (cond a (x ∷ filter one xs) (filter one xs)) ≡ filter one (cond b (x ∷ filter third xs) (filter third xs))
    by true here true passes rest = rw (same x here ∙ passes, here) (ap (λ later. x ∷ later) rest)
    by true here false passes rest = rw (same x here ∙ passes) rest
    by false here true passes rest = rw here rest
    by false here false passes rest = rest

-- ---- lookups

-- what an id has among amounts, where it has nothing at each of its places
pub lookup-nothing : (id : ℕ) (ids amounts : List ℕ) → ((place : ℕ) → slice_index ids place ≡ id → slice_index amounts place ≡ 0) → unwrap_or (lookup (nat_eq id) (zip ids amounts)) 0 ≡ 0
lookup-nothing id [] amounts none = refl
lookup-nothing id (first ∷ ids) [] none = refl
lookup-nothing id (first ∷ ids) (amount ∷ amounts) none = by (nat_eq id first) refl (lookup-nothing id ids amounts (λ place. none (suc place)))
  where
    by : (b : Bool) → nat_eq id first ≡ b → unwrap_or (lookup (nat_eq id) (zip ids amounts)) 0 ≡ 0 → unwrap_or (cond b (Some amount) (lookup (nat_eq id) (zip ids amounts))) 0 ≡ 0
    by true same rest = none 0 (sym (eqb-true id first same))
    by false same rest = rest

-- what an id has where each has an amount of its own
pub lookup-map : (amount : ℕ → ℕ) (id : ℕ) (ids : List ℕ) → unwrap_or (lookup (nat_eq id) (zip ids (map amount ids))) 0 ≡ cond (list_any (nat_eq id) ids) (amount id) 0
lookup-map amount id [] = refl
lookup-map amount id (first ∷ ids) = by (nat_eq id first) refl (lookup-map amount id ids)
  where
    by : (b : Bool) → nat_eq id first ≡ b → unwrap_or (lookup (nat_eq id) (zip ids (map amount ids))) 0 ≡ cond (list_any (nat_eq id) ids) (amount id) 0 → unwrap_or (cond b (Some (amount first)) (lookup (nat_eq id) (zip ids (map amount ids)))) 0 ≡ cond (b || list_any (nat_eq id) ids) (amount id) 0
    by true same rest = ap amount (sym (eqb-true id first same))
    by false same rest = rest

-- Laws of amounts of ids: an id that is found has more, and one that is not has nothing more.
-- The rule: docs/FINANCIAL_MODULE.md, "Allocation".
use Rattle.std.specs.Prelude.{Err, ◌||◌}
use Rattle.std.specs.Cmp.{nat_eq_equiv}
use Rattle.std.specs.FinMap.{nat_cmp-IsAntisymmetric}
use Rattle.std.specs.List.{AllByRecursion, list_any}
use Rattle.std.specs.List.Sorted.{IsBinarySearchResult}
use Rattle.std.specs.Ordering.{nat_cmp}
use Rattle.std.proofs.Common.{◌≡◌, ℕ, zero, suc, ◌+◌, ◌<◌, Bool, true, false, cond, nat_eq, List, [], ◌∷◌, length, get_or, refl, sym, ap, subst, ◌∙◌, arith, slice_set, Equal}
use Rattle.std.proofs.lemmas.Bool.{eqb-true, true≢false}
use Rattle.kt_rec.specs.ById.{with_more}
use Rattle.kt_rec.specs.Rising.{IsRising}
use Rattle.kt_rec.specs.RisingLaws.{not-missed}

-- what is above an id is not that id
above-none : (id : ℕ) (ids : List ℕ) → AllByRecursion (λ other. id < other) ids → list_any (nat_eq id) ids ≡ false
above-none id [] above = refl
above-none id (other ∷ ids) above = by (nat_eq id other) refl (above-none id ids above.1)
  where
    by : (b : Bool) → nat_eq id other ≡ b → list_any (nat_eq id) ids ≡ false → (b || list_any (nat_eq id) ids) ≡ false
    by true is rest = let same = eqb-true id other is in let less = above.0 in absurd (omega arith)
    by false is rest = rest

with-none : (ids amounts : List ℕ) (id more : ℕ) → length amounts ≡ length ids → list_any (nat_eq id) ids ≡ false → with_more ids amounts id more ≡ amounts
with-none [] [] id more same none = refl
with-none [] (amount ∷ amounts) id more same none = absurd (omega arith)
with-none (first ∷ ids) [] id more same none = absurd (omega arith)
with-none (first ∷ ids) (amount ∷ amounts) id more same none = by (nat_eq id first) none (with-none ids amounts id more (omega arith))
  where
    plus-none : amount + 0 ≡ amount
    plus-none = omega arith

    by : (b : Bool) → (b || list_any (nat_eq id) ids) ≡ false → (list_any (nat_eq id) ids ≡ false → with_more ids amounts id more ≡ amounts) → (amount + cond b more 0) ∷ with_more ids amounts id more ≡ amount ∷ amounts
    by true none rest = absurd (true≢false none)
    by false none rest = ap (λ n. n ∷ with_more ids amounts id more) plus-none ∙ ap (λ ns. amount ∷ ns) (rest none)

-- an id that is not found has nothing more
pub with-missed : (ids amounts : List ℕ) (id more at : ℕ) → IsRising ids → length amounts ≡ length ids → IsBinarySearchResult (λ other. nat_cmp other id) ids (Err at) → amounts ≡ with_more ids amounts id more
with-missed ids amounts id more at rises same missed = by (list_any (nat_eq id) ids) refl
  where
    by : (b : Bool) → list_any (nat_eq id) ids ≡ b → amounts ≡ with_more ids amounts id more
    by true member = absurd (not-missed ids id at rises member missed)
    by false none = sym (with-none ids amounts id more same none)

-- an id that compares as equal is the one
pub found-here : (ids : List ℕ) (id place : ℕ) → ((d : ℕ) → nat_cmp (get_or ids place d) id ≡ Equal) → get_or ids place 0 ≡ id
found-here ids id place equal = nat_cmp-IsAntisymmetric (get_or ids place 0) id (equal 0)

-- an id that is found has more
pub with-found : (ids amounts : List ℕ) (id more place : ℕ) → IsRising ids → length amounts ≡ length ids → place < length ids → get_or ids place 0 ≡ id → slice_set amounts place (get_or amounts place 0 + more) ≡ with_more ids amounts id more
unfolding IsRising
with-found [] amounts id more place rises same below here = absurd (omega arith)
with-found (first ∷ ids) [] id more place rises same below here = absurd (omega arith)
with-found (first ∷ ids) (amount ∷ amounts) id more zero rises same below here =
    let none : list_any (nat_eq id) ids ≡ false = subst (λ n. list_any (nat_eq n) ids ≡ false) here (above-none first ids rises.0) in
    let hit : nat_eq id first ≡ true = subst (λ n. nat_eq n first ≡ true) here (nat_eq_equiv.refl first) in
    sym (ap (λ b. (amount + cond b more 0) ∷ with_more ids amounts id more) hit ∙ ap (λ ns. (amount + more) ∷ ns) (with-none ids amounts id more (omega arith) none))
with-found (first ∷ ids) (amount ∷ amounts) id more (suc place) rises same below here =
    let apart : nat_eq id first ≡ false = other (nat_eq id first) refl in
    let e : amount + 0 ≡ amount = omega arith in
    ap (λ ns. amount ∷ ns) (with-found ids amounts id more place rises.1 (omega arith) (omega arith) here)
    ∙ (ap (λ n. n ∷ with_more ids amounts id more) (sym e) ∙ ap (λ b. (amount + cond b more 0) ∷ with_more ids amounts id more) (sym apart))
  where
    above-at : (ids : List ℕ) → AllByRecursion (λ other. first < other) ids → (j : ℕ) → j < length ids → first < get_or ids j 0
    above-at [] all j below = absurd (omega arith)
    above-at (other ∷ others) all zero below = all.0
    above-at (other ∷ others) all (suc j) below = above-at others all.1 j (omega arith)

    other : (b : Bool) → nat_eq id first ≡ b → nat_eq id first ≡ false
    other true is = let e = eqb-true id first is in let up = above-at ids rises.0 place (omega arith) in absurd (omega arith)
    other false is = is

-- Rising pairs are known by which they are, so the order of the rows that they are of does not matter.
use Rattle.std.proofs.Common.{◌≡◌, ℕ, Bool, true, false, List, [], ◌∷◌, refl, ap, sym, subst, ◌∙◌, nat_eq, arith, Less}
use Rattle.std.specs.Prelude.{◌&&◌, ◌||◌}
use Rattle.std.specs.List.{AllByRecursion, list_any}
use Rattle.std.specs.List.Sorted.{IsPermutation}
use Rattle.std.specs.Ordering.{nat_cmp, ordering_then}
use Rattle.std.proofs.lemmas.Bool.{and_parts, eqb-true}
use Rattle.std.proofs.lemmas.Bool.Decides.{nat_tests}
use Rattle.std.proofs.lemmas.Grind.{common_steps}
use Rattle.std.proofs.lemmas.List.Sorted.{list_any-IsPermutation}
use Rattle.kt_rec.specs.declared.exposure.Item.{Item}
use Rattle.kt_keys.specs.Keys.{same_pair}
use Rattle.kt_tables.specs.Lookups.{item_pairs, pair_of, pair_order}
use Rattle.kt_tables.specs.PairLaws.{ArePairsRising, pairs-member, pairs-rise}
use Rattle.kt_keys.proofs.UnitTableLemmas.{same_is}

-- of two pairs not each stands before the other
not_both : (a b c d : ℕ) → ordering_then (nat_cmp a c) (nat_cmp b d) ≡ Less → ordering_then (nat_cmp c a) (nat_cmp d b) ≡ Less → ⊥
not_both a b c d one other = grind (arith, common_steps)

-- a pair is the same as itself
itself : (p : ℕ × ℕ) → same_pair p p ≡ true
itself p = grind (arith, nat_tests)

-- what stands before pairs stands before one of them
before_one : (x p : ℕ × ℕ) (pairs : List (ℕ × ℕ)) → AllByRecursion (λ z. pair_order x z ≡ Less) pairs → list_any (same_pair p) pairs ≡ true → pair_order x p ≡ Less
before_one x p [] all there = absurd (cc)
before_one x p (z ∷ pairs) all there = by (same_pair p z) refl (λ h. before_one x p pairs all.1 h) there
  where
    by : (b : Bool) → same_pair p z ≡ b → (list_any (same_pair p) pairs ≡ true → pair_order x p ≡ Less) → (b || list_any (same_pair p) pairs) ≡ true → pair_order x p ≡ Less
    by true is later h = subst (λ other. pair_order x other ≡ Less) (sym (same_is p z is)) all.0
    by false is later h = later h

-- a pair is not among those that it stands before
not_among : (x : ℕ × ℕ) (pairs : List (ℕ × ℕ)) → AllByRecursion (λ z. pair_order x z ≡ Less) pairs → list_any (same_pair x) pairs ≡ false
not_among x pairs all = by (list_any (same_pair x) pairs) refl
  where
    by : (b : Bool) → list_any (same_pair x) pairs ≡ b → b ≡ false
    by true is = (let less = before_one x x pairs all is in absurd (not_both x.0 x.1 x.0 x.1 less less))
    by false is = refl

-- rising pairs that are the same ones are equal
same_rising : (one other : List (ℕ × ℕ)) → ArePairsRising one → ArePairsRising other → ((p : ℕ × ℕ) → list_any (same_pair p) one ≡ list_any (same_pair p) other) → one ≡ other
same_rising [] [] rise rises same = refl
same_rising [] (y ∷ ys) rise rises same = (let is = same y in let self = itself y in absurd (cc))
same_rising (x ∷ xs) [] rise rises same = (let is = same x in let self = itself x in absurd (cc))
same_rising (x ∷ xs) (y ∷ ys) rise rises same =
    ap (λ first. first ∷ xs) head ∙ ap (λ rest. y ∷ rest) (same_rising xs ys rise.1 rises.1 tails)
  where
    front : (b : Bool) → same_pair x y ≡ b → x ≡ y
    front true is = same_is x y is
    front false is =
        let here : list_any (same_pair x) ys ≡ true = ap (λ b. b || list_any (same_pair x) ys) (sym is) ∙ (sym (same x) ∙ ap (λ b. b || list_any (same_pair x) xs) (itself x)) in
        let flipped : same_pair y x ≡ false = turn x.0 x.1 y.0 y.1 is in
        let there : list_any (same_pair y) xs ≡ true = ap (λ b. b || list_any (same_pair y) xs) (sym flipped) ∙ (same y ∙ ap (λ b. b || list_any (same_pair y) ys) (itself y)) in
        absurd (not_both x.0 x.1 y.0 y.1 (before_one x y xs rise.0 there) (before_one y x ys rises.0 here))
      where
        turn : (a b c d : ℕ) → (nat_eq a c && nat_eq b d) ≡ false → (nat_eq c a && nat_eq d b) ≡ false
        turn a b c d h = grind (arith, nat_tests)

    head : x ≡ y
    head = front (same_pair x y) refl

    tails : (p : ℕ × ℕ) → list_any (same_pair p) xs ≡ list_any (same_pair p) ys
    tails p = by (same_pair p y) refl
      where
        by : (b : Bool) → same_pair p y ≡ b → list_any (same_pair p) xs ≡ list_any (same_pair p) ys
        by true is =
            let at : p ≡ y = same_is p y is in
            subst (λ (q : ℕ × ℕ). list_any (same_pair q) xs ≡ false) (head ∙ sym at) (not_among x xs rise.0) ∙ sym (subst (λ (q : ℕ × ℕ). list_any (same_pair q) ys ≡ false) (sym at) (not_among y ys rises.0))
        by false is =
            ap (λ b. b || list_any (same_pair p) xs) (sym (ap (same_pair p) head ∙ is)) ∙ (same p ∙ ap (λ b. b || list_any (same_pair p) ys) is)

-- the order of the items does not matter to their pairs
pub pairs_moved : (items moved : List Item) → IsPermutation items moved → item_pairs moved ≡ item_pairs items
pairs_moved items moved is =
    same_rising (item_pairs moved) (item_pairs items) (pairs-rise moved) (pairs-rise items)
    (λ p. pairs-member moved p ∙ (sym (list_any-IsPermutation (λ row. same_pair p (pair_of row)) items moved is) ∙ sym (pairs-member items p)))

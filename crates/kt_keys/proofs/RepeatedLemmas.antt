-- Keys of which none is repeated are those of which no two are equal, in whatever order they stand.
use Rattle.std.proofs.Common.{◌≡◌, ◌+◌, Bool, true, false, cond, List, [], ◌∷◌, ◌++◌, length, refl, ap, sym, subst, ◌∙◌, append_assoc, Some, None}
use Rattle.std.specs.Prelude.{◌||◌}
use Rattle.std.specs.Cmp.{IsEquivalence}
use Rattle.std.specs.List.{AllByRecursion, IsDistinct, list_any}
use Rattle.std.specs.List.Sorted.{IsPermutation}
use Rattle.std.proofs.lemmas.List.{append-nil}
use Rattle.std.proofs.lemmas.Map.Keys.{IsDistinct-IsPermutation, IsDistinct-head, IsDistinct-push, IsDistinct-tail}
use Rattle.std.proofs.lemmas.List.Sorted.{IsPermutation-sym}
use Rattle.kt_keys.specs.FirstRow.{first_refused_after, repeated_at}

-- what all have, one among them has
among : {K : Type 0} (p : K → Type 0) (before : List K) (key : K) (behind : List K) → AllByRecursion p (before ++ key ∷ behind) → p key
among p [] key behind all = all.0
among p (first ∷ before) key behind all = among p before key behind all.1

module _ {K : Type 0} {same : K → K → Bool} (laws : IsEquivalence same) where
  -- whether a row's key stands in an earlier row
  abbrev repeats : List K → K → Bool
  repeats earlier key = list_any (same key) earlier

  -- a key that differs from those before it stands in no earlier row
  none-earlier : (earlier : List K) (key : K) (behind : List K) → IsDistinct same (earlier ++ key ∷ behind) → repeats earlier key ≡ false
  none-earlier [] key behind distinct = refl
  none-earlier (first ∷ earlier) key behind distinct =
      let other : same key first ≡ false = laws.symm key first ∙ among (λ y. same first y ≡ false) earlier key behind (IsDistinct-head same first (earlier ++ key ∷ behind) distinct) in
      let rest : list_any (same key) earlier ≡ false = none-earlier earlier key behind (IsDistinct-tail same first (earlier ++ key ∷ behind) distinct) in
      ap (λ b. b || list_any (same key) earlier) other ∙ rest

  -- of keys that differ none is repeated
  none-repeated : (earlier keys : List K) → IsDistinct same (earlier ++ keys) → first_refused_after repeats earlier keys ≡ None
  none-repeated earlier [] distinct = refl
  none-repeated earlier (key ∷ keys) distinct =
      ap (λ b. cond b (Some (length earlier + 1)) (first_refused_after repeats (earlier ++ key ∷ []) keys)) (none-earlier earlier key keys distinct)
      ∙ none-repeated (earlier ++ key ∷ []) keys (subst (IsDistinct same) (sym (append_assoc earlier (key ∷ []) keys)) distinct)

  -- keys of which none is repeated differ
  all-differ : (earlier keys : List K) → IsDistinct same earlier → first_refused_after repeats earlier keys ≡ None → IsDistinct same (earlier ++ keys)
  all-differ earlier [] distinct none = subst (IsDistinct same) (sym (append-nil earlier)) distinct
  all-differ earlier (key ∷ keys) distinct none = by (repeats earlier key) refl none (λ differs more. all-differ (earlier ++ key ∷ []) keys differs more)
    where
      by : (b : Bool) → repeats earlier key ≡ b → cond b (Some (length earlier + 1)) (first_refused_after repeats (earlier ++ key ∷ []) keys) ≡ None
          → (IsDistinct same (earlier ++ key ∷ []) → first_refused_after repeats (earlier ++ key ∷ []) keys ≡ None → IsDistinct same ((earlier ++ key ∷ []) ++ keys)) → IsDistinct same (earlier ++ key ∷ keys)
      by true is refused onward = absurd (cc)
      by false is more onward = subst (IsDistinct same) (append_assoc earlier (key ∷ []) keys) (onward (IsDistinct-push laws earlier key distinct is) more)

  nothing : IsDistinct same []
  unfolding IsDistinct
  nothing = tt

  -- where none is repeated once they stand in another order, none is repeated
  pub none-moved : (keys ordered : List K) → IsPermutation keys ordered → repeated_at same ordered ≡ None → repeated_at same keys ≡ None
  none-moved keys ordered moved none = none-repeated [] keys (IsDistinct-IsPermutation same (λ x y. laws.symm x y) ordered keys (IsPermutation-sym keys ordered moved) (all-differ [] ordered nothing none))

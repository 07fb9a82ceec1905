-- A key that is above all before it is none of them.
use Rattle.std.proofs.Common.{◌≡◌, Bool, true, false, List, refl, ap, sym, ◌∙◌, All, Ordering, Less, Equal, Greater}
use Rattle.std.proofs.lemmas.List.Folds.{list_any_none}
use Rattle.std.specs.List.{list_any}
use Rattle.std.specs.Cmp.{IsTotalOrder, IsEquivalence}
use Rattle.std.specs.Ordering.{ordering_reverse, is_eq, is_le, is_ge}

-- what equals is not above
equal-le : (order : Ordering) → is_eq order ≡ true → is_le order ≡ true
equal-le Less e = absurd (cc)
equal-le Equal e = refl
equal-le Greater e = absurd (cc)

-- what is not above or equal is below
pub less-from : (order : Ordering) → is_ge order ≡ false → order ≡ Less
less-from Less e = refl
less-from Equal e = absurd (cc)
less-from Greater e = absurd (cc)

module _ {K : Type 0} {same : K → K → Bool} {cmp : K → K → Ordering} (laws : IsEquivalence same) (total : IsTotalOrder cmp) (agree : (x y : K) → same x y ≡ is_eq (cmp x y)) where
  -- a key is not above itself
  pub not_above-itself : (key : K) → is_le (cmp key key) ≡ true
  not_above-itself key = equal-le (cmp key key) (sym (agree key key) ∙ laws.refl key)

  -- what is not above one is below what is above it
  below-next : (order : Ordering) (x last key : K) → cmp x last ≡ order → is_le order ≡ true → cmp last key ≡ Less → cmp x key ≡ Less
  below-next Less x last key is low next = total.trans x last key is next
  below-next Equal x last key is low next = total.congr x last key is ∙ next
  below-next Greater x last key is low next = absurd (cc)

  -- the next key is not below those before it
  pub still-highest : (earlier : List K) (last key : K) → cmp last key ≡ Less → All (λ x. is_le (cmp x last) ≡ true) earlier → All (λ x. is_le (cmp x key) ≡ true) earlier
  still-highest earlier last key next low = λ k d h. ap is_le (below-next _ _ last key refl (low k d h) next)

  -- the next key is none of those before it
  pub none-before : (earlier : List K) (last key : K) → cmp last key ≡ Less → All (λ x. is_le (cmp x last) ≡ true) earlier → list_any (same key) earlier ≡ false
  none-before earlier last key next low = list_any_none (same key) earlier (λ k d h. agree key _ ∙ ap is_eq (total.antisymm key _ ∙ ap ordering_reverse (below-next _ _ last key refl (low k d h) next)))

-- What is left of keys in order, each once, are as many as the keys, where those that are equal count once.
use Rattle.std.proofs.Common.{◌≡◌, Bool, true, false, cond, List, [], ◌∷◌, length, refl, ap, sym, subst, ◌∙◌, Ordering}
use Rattle.std.specs.Prelude.{◌||◌}
use Rattle.std.specs.Cmp.{IsTotalOrder, IsEquivalence}
use Rattle.std.specs.List.{IsDistinct, dedup, dedup_from, list_any}
use Rattle.std.specs.List.Sorted.{IsPermutation, IsSorted}
use Rattle.std.specs.Ordering.{is_eq}
use Rattle.std.specs.Set.{distinct_count}
use Rattle.std.proofs.Math.Path.{fun_ext}
use Rattle.std.proofs.lemmas.List.Kept.{IsStrictlySortedBy-dedup}
use Rattle.std.proofs.lemmas.List.Sorted.{list_any-IsPermutation}
use Rattle.std.proofs.lemmas.Map.Keys.{IsDistinct-from_sorted}
use Rattle.std.proofs.lemmas.Map.Made.{length-from_keys}

-- what is asked twice is asked once
twice : (a b : Bool) → (a || (a || b)) ≡ (a || b)
twice true b = refl
twice false b = refl

module _ {K : Type 0} {same : K → K → Bool} (laws : IsEquivalence same) where
  -- what is left once holds what was there
  held_from : (keys : List K) (first key : K) → list_any (same key) (dedup_from same first keys) ≡ (same key first || list_any (same key) keys)
  held_from [] first key = refl
  held_from (next ∷ keys) first key = by (same next first) refl (held_from keys first key) (held_from keys next key)
    where
      by : (b : Bool) → same next first ≡ b → list_any (same key) (dedup_from same first keys) ≡ (same key first || list_any (same key) keys) → list_any (same key) (dedup_from same next keys) ≡ (same key next || list_any (same key) keys) → list_any (same key) (cond b (dedup_from same first keys) (first ∷ dedup_from same next keys)) ≡ (same key first || (same key next || list_any (same key) keys))
      by true is here later =
          let alike : same key next ≡ same key first = laws.symm key next ∙ (laws.congr next first key is ∙ laws.symm first key) in
          here ∙ (sym (twice (same key first) _) ∙ ap (λ b. same key first || (b || list_any (same key) keys)) (sym alike))
      by false is here later = ap (λ b. same key first || b) later

  pub held : (keys : List K) (key : K) → list_any (same key) (dedup same keys) ≡ list_any (same key) keys
  held [] key = refl
  held (first ∷ keys) key = held_from keys first key

  -- how many keys in order are left, each once
  pub left_once : {cmp : K → K → Ordering} → IsTotalOrder cmp → ((x y : K) → same x y ≡ is_eq (cmp x y)) → (keys ordered : List K) → IsPermutation keys ordered → IsSorted cmp ordered → length (dedup same ordered) ≡ distinct_count same keys
  left_once {cmp} total agree keys ordered moved sorted =
      length-from_keys
      laws
      (dedup same ordered)
      keys
      (subst (λ (test : K → K → Bool). IsDistinct test (dedup same ordered)) (sym (fun_ext (λ x. fun_ext (agree x)))) (IsDistinct-from_sorted cmp (dedup same ordered) (IsStrictlySortedBy-dedup total agree ordered sorted)))
      (λ key. held ordered key ∙ sym (list_any-IsPermutation (same key) keys ordered moved))

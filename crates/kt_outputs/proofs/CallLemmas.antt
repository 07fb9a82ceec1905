-- What calls that are made side by side answer.
use Rattle.std.proofs.Common.{◌≡◌, ℕ, ◌+◌, ◌-◌, ◌<◌, List, [], ◌∷◌, ◌++◌, length, get_or, arith, ap, sym, subst, ◌∙◌, ⊎_elim}
use Rattle.std.proofs.lemmas.Bool.{cases_lt}
use Rattle.std.proofs.lemmas.List.{get_or_append_left, get_or-append_right}

module _ {R : Type 0} (P : ℕ → R → Type 0) where
  -- of one call
  pub of_one : (from count : ℕ) (x : R) (xs : List R) → count ≡ 1 → xs ≡ x ∷ [] → P from x → (k : ℕ) (d : R) → k < count → P (from + k) (get_or xs k d)
  of_one from count x xs one is said k d within =
      let first : k ≡ 0 = omega (arith, one, within) in
      subst (λ i. P i (get_or xs k d)) {x = from} (omega (arith, first)) (subst (P from) (sym (ap (λ l. get_or l k d) is ∙ ap (λ j. get_or (x ∷ []) j d) first)) said)

  -- of the first calls and of all behind them
  pub of_both : (from low high count : ℕ) (xs ys zs : List R) → low + high ≡ count → zs ≡ xs ++ ys → length xs ≡ low → ((k : ℕ) (d : R) → k < low → P (from + k) (get_or xs k d)) → ((k : ℕ) (d : R) → k < high → P (from + low + k) (get_or ys k d)) →
      (k : ℕ) (d : R) → k < count → P (from + k) (get_or zs k d)
  of_both from low high count xs ys zs sum is len front back k d within =
      ⊎_elim (λ (below : k < low). subst (P (from + k)) (sym (ap (λ l. get_or l k d) is ∙ get_or_append_left xs ys d k (omega (arith, below, len)))) (front k d below))
      (λ past. subst (λ i. P i (get_or zs k d)) {x = from + low + (k - low)} (omega (arith, past)) (subst (P (from + low + (k - low))) (sym (ap (λ l. get_or l k d) is ∙ get_or-append_right xs ys low k d len past)) (back (k - low) d (omega (arith, past, sum, within)))))
      (cases_lt k low)

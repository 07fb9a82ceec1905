-- The totals of keys, and what follows where no total is too large.
-- The rules: docs/CHECKS.md, "Insured values", "Probabilities of vulnerabilities".
use Rattle.std.specs.Prelude.{◌≡◌, ℕ, ◌≤◌, ◌+◌, Bool, true, false, cond, List, [], ◌∷◌, ◌++◌, length, nat_lt, refl, Some, None}
use Rattle.std.specs.Cmp.{IsEquivalence}
use Rattle.std.proofs.Common.{sym, subst, ap, ◌∙◌, append-nil, append_assoc, add-zero, arith}
use Rattle.std.proofs.lemmas.Bool.{ltb-false}
use Rattle.std.proofs.lemmas.List.Sums.{sum_by-cons, sum_by_push}
use Rattle.kt_keys.specs.FirstRow.{first_refused_after, total_of, above_at}

module _ {K : Type 0} {same : K → K → Bool} (laws : IsEquivalence same) where
  -- equal keys have the same total
  pub total_of-same : (parts : List (K × ℕ)) (one other : K) → same one other ≡ true → total_of same parts one ≡ total_of same parts other
  total_of-same [] one other h = refl
  total_of-same (part ∷ parts) one other h =
      sum_by-cons (λ x. cond (same one x.0) x.1 0) part parts
      ∙ (ap (λ b. cond b part.1 0 + total_of same parts one) (laws.congr one other part.0 h)
      ∙ (ap (λ n. cond (same other part.0) part.1 0 + n) (total_of-same parts one other h)
      ∙ sym (sum_by-cons (λ x. cond (same other x.0) x.1 0) part parts)))

  -- the total of a key after one more part of it
  pub total_of-push : (parts : List (K × ℕ)) (part : K × ℕ) → total_of same (parts ++ part ∷ []) part.0 ≡ total_of same parts part.0 + part.1
  total_of-push parts part = sum_by_push (λ x. cond (same part.0 x.0) x.1 0) parts part ∙ ap (λ b. total_of same parts part.0 + cond b part.1 0) (laws.refl part.0)

  -- the total of another key stays
  pub total_of-other : (parts : List (K × ℕ)) (part : K × ℕ) (key : K) → same part.0 key ≡ false → total_of same (parts ++ part ∷ []) key ≡ total_of same parts key
  total_of-other parts part key apart =
      sum_by_push (λ x. cond (same key x.0) x.1 0) parts part
      ∙ (ap (λ b. total_of same parts key + cond b part.1 0) (laws.symm key part.0 ∙ apart)
      ∙ add-zero (total_of same parts key))

  -- where no part makes its key's total too large, no key's total is
  pub total_within : (most : ℕ) (parts : List (K × ℕ)) → above_at same most parts ≡ None → (key : K) → total_of same parts key ≤ most
  total_within most parts none = from [] parts none (λ key. omega arith)
    where
      within : (b : Bool) (earlier : List (K × ℕ)) (part : K × ℕ) (key : K) → same part.0 key ≡ b → total_of same (earlier ++ part ∷ []) part.0 ≤ most → total_of same earlier key ≤ most → total_of same (earlier ++ part ∷ []) key ≤ most
      within true earlier part key is here there = subst (λ n. n ≤ most) (total_of-same (earlier ++ part ∷ []) part.0 key is) here
      within false earlier part key is here there = subst (λ n. n ≤ most) (sym (total_of-other earlier part key is)) there

      step : (b : Bool) (earlier : List (K × ℕ)) (part : K × ℕ) (parts : List (K × ℕ)) → nat_lt most (total_of same (earlier ++ part ∷ []) part.0) ≡ b → cond b (Some (length earlier + 1)) (first_refused_after (λ before x. nat_lt most (total_of same (before ++ x ∷ []) x.0)) (earlier ++ part ∷ []) parts) ≡ None → ((key : K) → total_of same earlier key ≤ most) → (first_refused_after (λ before x. nat_lt most (total_of same (before ++ x ∷ []) x.0)) (earlier ++ part ∷ []) parts ≡ None → ((key : K) → total_of same (earlier ++ part ∷ []) key ≤ most) → (key : K) → total_of same ((earlier ++ part ∷ []) ++ parts) key ≤ most) → (key : K) → total_of same (earlier ++ (part ∷ parts)) key ≤ most
      step true earlier part parts is h le rest = cc
      step false earlier part parts is h le rest = λ key. subst (λ all. total_of same all key ≤ most) (append_assoc earlier (part ∷ []) parts) (rest h (λ k. within (same part.0 k) earlier part k refl (ltb-false _ _ is) (le k)) key)

      from : (earlier parts : List (K × ℕ)) → first_refused_after (λ before x. nat_lt most (total_of same (before ++ x ∷ []) x.0)) earlier parts ≡ None → ((key : K) → total_of same earlier key ≤ most) → (key : K) → total_of same (earlier ++ parts) key ≤ most
      from earlier [] h le = λ key. subst (λ all. total_of same all key ≤ most) (sym (append-nil earlier)) (le key)
      from earlier (part ∷ parts) h le = step (nat_lt most (total_of same (earlier ++ part ∷ []) part.0)) earlier part parts refl h le (from (earlier ++ part ∷ []) parts)

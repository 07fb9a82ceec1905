-- Lists of the amounts of samples: one that gains an amount, and all of them.
use Rattle.std.proofs.Common.{◌≡◌, ◌≢◌, ◌<◌, ◌≤◌, ◌+◌, ◌++◌, ◌∷◌, ℕ, List, [], length, take, drop, set, slice_set, slice_index_or, cond, refl, ap, sym, subst, ◌∙◌, arith}
use Rattle.std.specs.Prelude.{Bool, true, false, nat_eq}
use Rattle.std.proofs.lemmas.List.{append-nil, drop_all, take_all, take_more_set, take-set, get_or_default, get_or-set_same, get_or-set_other}
use Rattle.std.proofs.lemmas.Bool.Decides.{Decides-eqb}
use Rattle.kt_cell.specs.Losses.{one_if}

-- one amount more behind the first ones, where it is there
pub amount_more : (values : List ℕ) (used amount more : ℕ) (there : Bool) → used < length values → more ≡ one_if there → take (used + more) (set values used amount) ≡ take used values ++ cond there (amount ∷ []) []
amount_more values used amount more true within is = ap (λ m. take (used + m) (set values used amount)) is ∙ take_more_set values used amount within
amount_more values used amount more false within is =
    let same : used + 0 ≡ used = omega arith in
    ap (λ m. take (used + m) (set values used amount)) is ∙ ap (λ m. take m (set values used amount)) same ∙ take-set values used amount ∙ sym (append-nil (take used values))

-- it is one at the most
pub one_at_most : (there : Bool) → one_if there ≤ 1
one_at_most true = omega arith
one_at_most false = omega arith

-- what one more list gained
pub lists_more : {X : Type 0} (R : ℕ → X → X → Type 0) (old lists : List X) (k : ℕ) (item now : X) → k < length lists → ((j : ℕ) (d : X) → j < k → R j (slice_index_or old j d) (slice_index_or lists j d)) →
    ((j : ℕ) (d : X) → k ≤ j → slice_index_or lists j d ≡ slice_index_or old j d) → R k (slice_index_or lists k item) now → (j : ℕ) (d : X) → j < k + 1 → R j (slice_index_or old j d) (slice_index_or (slice_set lists k now) j d)
lists_more {X = X} R old lists k item now below done left grown j d within = by_test (nat_eq j k) refl
  where
    by_test : (b : Bool) → nat_eq j k ≡ b → R j (slice_index_or old j d) (slice_index_or (slice_set lists k now) j d)
    by_test true same =
        let at : j ≡ k = (Decides-eqb j k).0 same in
        let before : slice_index_or lists k item ≡ slice_index_or old k d = get_or_default lists k item d below ∙ left k d (omega arith) in
        subst (λ (i : ℕ). R i (slice_index_or old i d) (slice_index_or (slice_set lists k now) i d)) (sym at)
        (subst (λ (x : X). R k (slice_index_or old k d) x) (sym (get_or-set_same lists k now d below)) (subst (λ (x : X). R k x now) before grown))
    by_test false other =
        let apart : j ≢ k = λ at. let wrong : nat_eq j k ≡ true = (Decides-eqb j k).1 at in let no : true ≡ false = sym wrong ∙ other in cc in
        subst (λ (x : X). R j (slice_index_or old j d) x) (sym (get_or-set_other lists k j now d apart)) (done j d (omega (arith, within, apart)))

-- a list in whose place another of the same length was put is that one
pub written_back : {X : Type 0} (now old : List X) (n : ℕ) → length now ≡ n → length old ≡ n → take n (now ++ drop (length now) old) ≡ now
written_back {X = X} now old n many all =
    let none : drop (length now) old ≡ [] = drop_all (length now) old (omega (arith, many, all)) in
    ap (λ (xs : List X). take n (now ++ xs)) none ∙ ap (take n) (append-nil now) ∙ take_all n now (omega (arith, many))

-- Lists of which a loop has come so far.
use Rattle.std.proofs.Common.{◌≡◌, ◌<◌, ℕ, suc, ◌+◌, List, [], ◌∷◌, ◌++◌, length, take, drop, slice_index_or, sym, ap, subst, ◌∙◌, append_assoc, arith}
use Rattle.std.proofs.lemmas.List.{take_more, take-append-drop}
use Rattle.std.proofs.Math.Seq.{drop-cons}

-- one element more
pub one_taken : {X : Type 0} (xs : List X) (i : ℕ) (x : X) → i < length xs → x ≡ slice_index_or xs i x → take (i + 1) xs ≡ take i xs ++ x ∷ []
one_taken xs i x below is = take_more xs i x below ∙ ap (λ (y : _). take i xs ++ y ∷ []) (sym is)

-- an element, and those behind it
pub one_left : {X : Type 0} (xs : List X) (i : ℕ) (x : X) → i < length xs → x ≡ slice_index_or xs i x → drop i xs ≡ x ∷ drop (i + 1) xs
one_left xs i x below is =
    let next : suc i ≡ i + 1 = omega arith in
    drop-cons xs i x below ∙ ap (λ (y : _). y ∷ drop (suc i) xs) (sym is) ∙ ap (λ (n : ℕ). x ∷ drop n xs) next

-- a list around one of its elements
pub around : {X : Type 0} (xs : List X) (i : ℕ) (x : X) → i < length xs → x ≡ slice_index_or xs i x → xs ≡ (take i xs ++ x ∷ []) ++ drop (i + 1) xs
around xs i x below is =
    sym (take-append-drop i xs) ∙ ap (λ (ys : List _). take i xs ++ ys) (one_left xs i x below is) ∙ sym (append_assoc (take i xs) (x ∷ []) (drop (i + 1) xs))

-- a place of a list that is another by name
pub same_place : {X : Type 0} (xs ys : List X) (i : ℕ) (x : X) → xs ≡ ys → i < length xs → x ≡ slice_index_or xs i x → (i < length ys) × (x ≡ slice_index_or ys i x)
same_place xs ys i x same below is = (subst (λ (zs : List _). i < length zs) same below, subst (λ (zs : List _). x ≡ slice_index_or zs i x) same is)

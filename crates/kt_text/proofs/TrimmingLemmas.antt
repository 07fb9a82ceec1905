-- A list whose ends are trimmed, by the element at that end.
use Rattle.std.proofs.Common.{◌≡◌, ℕ, zero, suc, ◌-◌, Bool, cond, eqb, List, [], ◌∷◌, length, get_or, take, drop, refl, arith, inl, inr}
use Rattle.std.proofs.lemmas.Bool.{and_right, cases_Bool, ne_eqb}
use Rattle.std.proofs.lemmas.Bool.Decides.{nat_tests}
use Rattle.std.proofs.lemmas.List.{take_rest}
use Rattle.kt_text.specs.Trimming.{without_front, without_end}
use Rattle.kt_text.proofs.DigitLemmas.{AllDigits-without_end}

pub without_front_at : (test : ℕ → Bool) (xs : List ℕ) → without_front test xs ≡ cond (eqb (length xs) 0) xs (cond (test (get_or xs 0 0)) (without_front test (drop 1 xs)) xs)
unfolding without_front
without_front_at test [] = refl
without_front_at test (x ∷ xs) = rw (ne_eqb (length (x ∷ xs)) 0 (λ e. omega arith))

without_end_last : (test : ℕ → Bool) (xs : List ℕ) (n : ℕ) → length xs ≡ suc n → without_end test xs ≡ cond (test (get_or xs n 0)) (without_end test (take n xs)) xs
unfolding without_end
without_end_last test (x ∷ []) zero e = elim (cases_Bool (test x)) [ inl p ↦ rw p refl | inr p ↦ rw p refl ]
without_end_last test (x ∷ y ∷ ys) (suc n) e =
    rw (without_end_last test (y ∷ ys) n (omega arith)) (elim (cases_Bool (test (get_or (y ∷ ys) n 0))) [
      | inl p ↦ rw p refl
      | inr p ↦ rw (p, and_right (test x) (eqb (length (y ∷ ys)) 0) (ne_eqb _ 0 (λ z. omega arith)))
    ])
without_end_last test _ _ e = absurd (omega arith)

pub without_end_at : (test : ℕ → Bool) (xs : List ℕ) → without_end test xs ≡ cond (eqb (length xs) 0) xs (cond (test (get_or xs (length xs - 1) 0)) (without_end test (take (length xs - 1) xs)) xs)
unfolding without_end
without_end_at test [] = refl
without_end_at test (x ∷ xs) = rw (ne_eqb (length (x ∷ xs)) 0 (λ e. omega arith)) (without_end_last test (x ∷ xs) (length (x ∷ xs) - 1) (omega arith))

-- what stands behind the first element, as a pattern of the code cuts it
pub behind_first : (xs : List ℕ) → take (length xs - 1) (drop 1 xs) ≡ drop 1 xs
behind_first xs = take_rest xs 1

pub ruleset trimming = (without_front_at, without_end_at, behind_first, AllDigits-without_end, nat_tests)

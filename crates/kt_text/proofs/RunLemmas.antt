-- How far the bytes at the front of a text go that pass a test, or that do not.
use Rattle.std.proofs.Common.{◌≡◌, ℕ, zero, suc, ◌+◌, ◌<◌, ◌≤◌, ◌⊎◌, Bool, true, false, cond, List, [], ◌∷◌, length, get_or, take, drop, sym, subst, ap, ◌∙◌, arith, inl, inr, min}
use Rattle.std.specs.Prelude.{not}
use Rattle.std.specs.List.{list_all, list_any, prefix_len, position_or_len}
use Rattle.std.proofs.lemmas.Bool.{and_parts, or_parts}
use Rattle.kt_text.specs.PlainText.{LacksDecimals, begins_with_point, digits_before}

-- a byte that passes, behind such as do not, is the first that does
pub first-at : (test : ℕ → Bool) (text : List ℕ) (n : ℕ) → list_any test (take n text) ≡ false → n ≤ length text → (n < length text → test (get_or text n 0) ≡ true) → n ≡ position_or_len test text
first-at test [] n none le stops = omega arith
first-at test (x ∷ xs) zero none le stops = sym (ap (λ b. cond (not b) (1 + prefix_len (λ y. not (test y)) xs) 0) (stops (omega arith)))
first-at test (x ∷ xs) (suc n) none le stops =
    let parts = or_parts (test x) (list_any test (take n xs)) none in
    let rest = first-at test xs n parts.1 (omega arith) (λ l. stops (omega arith)) in
    let one : suc n ≡ 1 + prefix_len (λ y. not (test y)) xs = omega (arith, rest) in
    one ∙ sym (ap (λ b. cond (not b) (1 + prefix_len (λ y. not (test y)) xs) 0) parts.0)

-- bytes that pass are no more than those that do from the front on
pub run-past : (test : ℕ → Bool) (text : List ℕ) (n : ℕ) → list_all test (take n text) ≡ true → n ≤ length text → n ≤ prefix_len test text
run-past test [] n all le = omega arith
run-past test (x ∷ xs) zero all le = omega arith
run-past test (x ∷ xs) (suc n) all le =
    let parts = and_parts (test x) (list_all test (take n xs)) all in
    let rest = run-past test xs n parts.1 (omega arith) in
    rw parts.0 (omega (arith, rest))

-- a byte that does not pass, behind such as do, ends them
pub run-at : (test : ℕ → Bool) (text : List ℕ) (n : ℕ) → list_all test (take n text) ≡ true → n ≤ length text → (n < length text → test (get_or text n 0) ≡ false) → n ≡ prefix_len test text
run-at test [] n all le stops = omega arith
run-at test (x ∷ xs) zero all le stops = sym (ap (λ b. cond b (1 + prefix_len test xs) 0) (stops (omega arith)))
run-at test (x ∷ xs) (suc n) all le stops =
    let parts = and_parts (test x) (list_all test (take n xs)) all in
    let rest = run-at test xs n parts.1 (omega arith) (λ l. stops (omega arith)) in
    let one : suc n ≡ 1 + prefix_len test xs = omega (arith, rest) in
    one ∙ sym (ap (λ b. cond b (1 + prefix_len test xs) 0) parts.0)

-- a point behind the digits of a text, and digits behind it that are none or too many
pub lacks : (scale : ℕ) (text : List ℕ) (count more : ℕ) → count ≡ min (digits_before text) 18 → count ≤ 11 → begins_with_point (drop count text) ≡ true → more ≡ min (digits_before (drop (count + 1) text)) 18 → (more ≡ 0) ⊎ (scale < more) → LacksDecimals scale text
lacks scale text count more is few point digits bad =
    let same : count ≡ digits_before text = omega arith in
    subst (λ n. (begins_with_point (drop n text) ≡ true) × ((digits_before (drop (n + 1) text) ≡ 0) ⊎ (scale < digits_before (drop (n + 1) text)))) same (
      point,
      elim bad [
        | inl none ↦ inl (omega arith)
        | inr long ↦ inr (omega arith)
      ],
    )

-- How many digits a number has, and how large it then is.
use Rattle.std.proofs.Common.{◌≡◌, ℕ, suc, Bool, get_or, take, rules, ◌+◌, ◌*◌, ◌^◌, ◌<◌, ◌≤◌, min, true, ◌&&◌, List, [], ◌∷◌, ◌++◌, length, refl, sym, ap, ◌∙◌, arith, lit<, inl, inr, eqb}
use Rattle.std.specs.Prelude.{nat_le, nat_lt}
use Rattle.std.specs.Char.{digit_value, is_ascii_digit}
use Rattle.std.specs.List.{list_all}
use Rattle.std.specs.Str.Parse.{AllDigits, digits_value, digits_value_after}
use Rattle.std.proofs.Math.Nat.{one-le-pow, mul-le-mul_right, pow-succ'}
use Rattle.std.proofs.lemmas.Bool.{cases_Bool, eqb-true, eqb-false, le-ltb, lt-leb}
use Rattle.std.proofs.lemmas.Int.Digits.{digits_more, digits_value-lt, digits_value_more}
use Rattle.std.proofs.lemmas.Bool.Decides.{nat_tests}
use Rattle.std.proofs.lemmas.Grind.{pow_more}
use Rattle.std.proofs.lemmas.Str.{digit_value_digit}
use Rattle.std.proofs.lemmas.Str.Parse.{IsNumeralModel, numerals_by_value, digit_at, digit_from_value}
use Rattle.std.proofs.lemmas.List.{take_more}
use Rattle.std.proofs.lemmas.List.Folds.{list_all-append}
use Rattle.kt_text.proofs.ScalingLemmas.{tens_rise}
use Rattle.kt_text.specs.Trimming.{without_front, without_end, is_zero_digit}
use Rattle.kt_text.specs.Numbers.{significant}

-- a text of digits, byte by byte
pub digits_test : IsNumeralModel (λ ds. list_all is_ascii_digit ds ≡ true) (digits_value 10)
digits_test = numerals_by_value _ (search rules)

-- digits behind digits go on from their value
pub value_after-append : (n : ℕ) (front ds : List ℕ) → digits_value_after 10 n (front ++ ds) ≡ digits_value_after 10 (digits_value_after 10 n front) ds
value_after-append n [] ds = refl
value_after-append n (d ∷ front) ds = value_after-append (n * 10 + digit_value d) front ds

-- one more digit
pub value_after-more : (n : ℕ) (ds : List ℕ) (i : ℕ) → i < length ds → digits_value_after 10 n (take (i + 1) ds) ≡ digits_value_after 10 n (take i ds) * 10 + digit_value (get_or ds i 0)
value_after-more n ds i h = rw (take_more ds i 0 h) (value_after-append n (take i ds) (get_or ds i 0 ∷ []))

-- the digit at a place
pub digit_byte : (ds : List ℕ) (i : ℕ) → i < length ds → AllDigits 10 ds → get_or ds i 0 ≡ digit_value (get_or ds i 0) + 48
digit_byte ds i h all = sym (digit_value_digit (get_or ds i 0) (digit_at ds i all h))

pub ruleset digit_steps = (value_after-more, digit_byte)

-- digits behind those of n move it up by as many places
pub value_after-is : (n : ℕ) (ds : List ℕ) → digits_value_after 10 n ds ≡ n * 10 ^ length ds + digits_value 10 ds
value_after-is n [] = omega arith
value_after-is n (d ∷ ds) =
    rw (pow-succ' 10 (length ds)) (omega (arith, value_after-is (n * 10 + digit_value d) ds, value_after-is (0 * 10 + digit_value d) ds))

-- digits behind digits
pub AllDigits-append : (front ds : List ℕ) → AllDigits 10 front → AllDigits 10 ds → AllDigits 10 (front ++ ds)
AllDigits-append front ds p q = digits_test.to (front ++ ds) (rw (list_all-append, digits_test.from front p) (digits_test.from ds q))

-- what is left of digits
pub AllDigits-without_end : (test : ℕ → Bool) (ds : List ℕ) → AllDigits 10 ds → AllDigits 10 (without_end test ds)
unfolding without_end
AllDigits-without_end test [] h = tt
AllDigits-without_end test (d ∷ ds) h = elim (cases_Bool (test d && eqb (length (without_end test ds)) 0)) [
  | inl e ↦ rw e tt
  | inr e ↦ rw e (h.0, AllDigits-without_end test ds h.1)
]

-- a number between two powers of ten, and its digits
more_digits : (most places value : ℕ) → 10 ^ places ≤ value → value < 10 ^ suc places → nat_lt most (suc places) ≡ nat_le (10 ^ most) value
more_digits most places value least below = grind (arith, nat_tests, tens_rise most places, tens_rise (suc places) most)

-- a number has more than so many digits, leading zeros not counted, where it is that power of ten or more
pub more_digits-is : (most : ℕ) (ds : List ℕ) → AllDigits 10 ds → nat_lt most (length (significant ds)) ≡ nat_le (10 ^ most) (digits_value 10 ds)
unfolding without_front
more_digits-is most [] h = rw (lt-leb (10 ^ most) 0 (one-le-pow most 10 (lit< tt)), le-ltb most 0 (omega arith))
more_digits-is most (d ∷ ds) h = elim (cases_Bool (is_zero_digit d)) [
  | inl e ↦ rw (e, eqb-true d 48 e) (more_digits-is most ds h.1)
  | inr e ↦ (
      let some : 1 ≤ 0 * 10 + digit_value d = omega (arith, digit_value_digit d (digit_from_value d h.0), eqb-false d 48 e) in
      let least : 10 ^ length ds ≤ digits_value 10 (d ∷ ds) = omega (arith, value_after-is (0 * 10 + digit_value d) ds, mul-le-mul_right (10 ^ length ds) some) in
      rw e (more_digits most (length ds) (digits_value 10 (d ∷ ds)) least (digits_value-lt 10 (d ∷ ds) h)))
]

-- two runs of digits, each with a limit, are one run with that limit
pub capped-join : (start most : ℕ) (ds : List ℕ) → min (digits_value_after 10 (min start most) ds) most ≡ min (digits_value_after 10 start ds) most
capped-join start most [] = omega arith
capped-join start most (d ∷ ds) =
    let v = digit_value d in
    let same : min (min start most * 10 + v) most ≡ min (start * 10 + v) most = omega arith in
    sym (capped-join (min start most * 10 + v) most ds) ∙ ap (λ n. min (digits_value_after 10 n ds) most) same ∙ capped-join (start * 10 + v) most ds

pub ruleset joined_digits = (capped-join, value_after-append, AllDigits-append)

-- the powers of ten that a number of so few digits is below
pub few_digits : (count : ℕ) → (count ≤ 6 → 10 ^ count ≤ 10 ^ 6) × (count ≤ 11 → 10 ^ count ≤ 10 ^ 11) × (count ≤ 17 → 10 ^ count ≤ 10 ^ 17)
few_digits count = (tens_rise count 6, tens_rise count 11, tens_rise count 17)

pub ruleset front_steps = (digits_more, digits_value_more, digit_value_digit, few_digits, pow_more, nat_tests)

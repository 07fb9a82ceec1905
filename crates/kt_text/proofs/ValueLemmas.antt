-- The number that a text or a numeral's parts stand for, by the value of the digits.
use Rattle.std.proofs.Common.{◌≡◌, ℕ, ◌^◌, min, true, cond, Err, Ok, List, arith, inl, inr}
use Rattle.std.specs.Prelude.{nat_le, nat_lt, not}
use Rattle.std.specs.Float.Numeral.{Parts}
use Rattle.std.specs.Str.Parse.{AllDigits, digits_value}
use Rattle.std.proofs.lemmas.Bool.{and_parts, cases_Bool}
use Rattle.std.proofs.lemmas.Bool.Decides.{nat_tests}
use Rattle.kt_money.specs.Rounding.{half_up}
use Rattle.kt_text.specs.declared.bad_text.BadText.TheVariants.{NotANumber, TooManyDigits, ExponentRange}
use Rattle.kt_text.specs.Trimming.{without_blanks}
use Rattle.kt_text.specs.Numbers.{are_digits, count_value, amount_of, digits_of, exponent_of, within_limit, numerator, denominator}
use Rattle.kt_text.proofs.DigitLemmas.{digits_test, more_digits-is}

-- a text of digits alone
pub are_digits-AllDigits : (text : List ℕ) → are_digits text ≡ true → AllDigits 10 text
are_digits-AllDigits text h = digits_test.to text (and_parts _ _ h).1

pub count_value-is : (text : List ℕ) → count_value text ≡ cond (not (are_digits (without_blanks text))) (Err NotANumber)
    (cond (nat_le (10 ^ 18) (digits_value 10 (without_blanks text))) (Err TooManyDigits) (Ok (digits_value 10 (without_blanks text))))
unfolding count_value
count_value-is text = elim (cases_Bool (are_digits (without_blanks text))) [
  | inl h ↦ rw (h, more_digits-is 18 _ (are_digits-AllDigits _ h))
  | inr h ↦ rw h
]

pub ruleset count_cases = (count_value-is, are_digits-AllDigits, nat_tests)

pub amount_of-is : (scale : ℕ) (p : Parts) → AllDigits 10 (digits_of p)
    → amount_of scale p ≡ cond (nat_le (10 ^ 18) (digits_value 10 (digits_of p))) (Err TooManyDigits) (cond (nat_lt 30 (exponent_of p)) (Err ExponentRange) (within_limit (half_up (numerator scale p) (denominator p))))
amount_of-is scale p h = rw (more_digits-is 18 (digits_of p) h)

-- what is above 10^18 is above the limit
pub within_limit-capped : (amount : ℕ) → within_limit (min amount (10 ^ 18)) ≡ within_limit amount
within_limit-capped amount = grind (arith, nat_tests)

pub ruleset amount_cases = (amount_of-is, within_limit-capped, nat_tests)

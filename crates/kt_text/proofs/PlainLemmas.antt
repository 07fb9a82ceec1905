-- A number in plain digits, with or without decimals, and what is read of it.
use Rattle.std.proofs.Common.{◌≡◌, ℕ, zero, suc, ◌+◌, ◌-◌, ◌*◌, ◌/◌, ◌%◌, ◌^◌, ◌<◌, ◌≤◌, ◌⊎◌, Bool, true, false, cond, eqb, ◌&&◌, Ok, List, [], ◌∷◌, ◌++◌, length, get_or, take, drop, refl, sym, ap, ◌∙◌, arith, lit<, inl, inr, add-zero, drop-drop, take-add}
use Rattle.std.specs.Int.{IsInRange}
use Rattle.std.specs.Char.{digit_value}
use Rattle.std.specs.Fmt.{decimal}
use Rattle.std.specs.List.{list_any}
use Rattle.std.specs.Float.Numeral.{Parts, text_of}
use Rattle.std.specs.Str.Parse.{AllDigits, digits_value, digits_value_after}
use Rattle.std.proofs.Math.Nat.{div-le_self, mul-le-mul_left, mul-le-mul_right, one-le-pow, pow-succ'}
use Rattle.std.proofs.lemmas.Bool.{and_parts, cases_Bool, eq-eqb, eqb-true, false≢true, le-ltb, lt-leb, lt-ltb, ne_eqb, or_parts}
use Rattle.std.proofs.lemmas.Bool.Decides.{nat_tests}
use Rattle.std.proofs.lemmas.Float.Parse.{scan_numeral-text_of}
use Rattle.std.proofs.lemmas.Fmt.{decimal_is_IsNumeral, length-decimal-le}
use Rattle.std.proofs.lemmas.Int.Digits.{digits_value-lt}
use Rattle.std.proofs.lemmas.List.{append-nil, get_or_append_left, length-drop, length-take-le, nil_from_length, take_rest}
use Rattle.std.proofs.lemmas.List.Folds.{list_any-append}
use Rattle.std.proofs.lemmas.Str.Parse.{digit_at, digit_from_value, without_leading_plus_none}
use Rattle.kt_money.specs.Rounding.{half_up}
use Rattle.kt_money.specs.NumberText.{plain, padded_digits}
use Rattle.kt_money.specs.NumberTextLaws.{digits_value-padded_digits, length-padded_digits, padded_digits-digits, plain-decimals}
use Rattle.kt_text.specs.Trimming.{without_front, without_end, without_blanks, is_blank, is_zero_digit}
use Rattle.kt_text.specs.Numbers.{count_value, decimal_value, digits_of, numerator, denominator}
use Rattle.kt_text.specs.PlainText.{begins_with_point}
use Rattle.kt_text.proofs.DigitLemmas.{AllDigits-append, AllDigits-without_end, digits_test, few_digits, value_after-append, value_after-is}
use Rattle.kt_text.proofs.ScalingLemmas.{moved-up, tens_rise, tens_split}
use Rattle.kt_text.proofs.ValueLemmas.{amount_of-is, count_value-is}

-- digits have no byte of a kind that no digit is
pub digits_without : (test : ℕ → Bool) → ((d : ℕ) → IsInRange 48 57 d → test d ≡ false) → (ds : List ℕ) → AllDigits 10 ds → list_any test ds ≡ false
digits_without test none [] h = refl
digits_without test none (d ∷ ds) h = rw (none d (digit_from_value d h.0), digits_without test none ds h.1)

digits_unblanked : (ds : List ℕ) → AllDigits 10 ds → list_any is_blank ds ≡ false
digits_unblanked = digits_without is_blank (λ d r. grind (arith, nat_tests))

-- a text without blanks has none to take off
no_end : (test : ℕ → Bool) (xs : List ℕ) → list_any test xs ≡ false → without_end test xs ≡ xs
unfolding without_end
no_end test [] h = refl
no_end test (x ∷ xs) h = let parts = or_parts (test x) (list_any test xs) h in rw (parts.0, no_end test xs parts.1)

unblanked : (text : List ℕ) → list_any is_blank text ≡ false → without_blanks text ≡ text
unfolding without_front without_end
unblanked [] h = refl
unblanked (x ∷ xs) h = let parts = or_parts (is_blank x) (list_any is_blank xs) h in rw parts.0 (no_end is_blank (x ∷ xs) h)

-- at most 18 digits are read as the number that they write
pub count-of_digits : (text : List ℕ) → AllDigits 10 text → 0 < length text → length text ≤ 18 → count_value text ≡ Ok (digits_value 10 text)
count-of_digits text all some few =
    count_value-is text
    ∙ rw (unblanked text (digits_unblanked text all), digits_test.from text all, ne_eqb (length text) 0 (λ e. omega arith), lt-leb (10 ^ 18) (digits_value 10 text) (omega (arith, digits_value-lt 10 text all, tens_rise (length text) 18 few)))

-- a count in plain digits is read as that count
pub count_plain : (n : ℕ) → n < 10 ^ 18 → count_value (decimal n) ≡ Ok n
count_plain n small =
    let numeral = decimal_is_IsNumeral n (omega arith) in
    count-of_digits (decimal n) numeral.0.1 numeral.0.0 (length-decimal-le 18 n (lit< tt) small (omega arith)) ∙ ap Ok numeral.1

-- the zeros at the end of a fraction, in units of 10^-scale
zeros : (m scale : ℕ) (ds : List ℕ) → length ds ≤ scale
    → (length (without_end is_zero_digit ds) ≤ scale) × (digits_value_after 10 m (without_end is_zero_digit ds) * 10 ^ (scale - length (without_end is_zero_digit ds)) ≡ digits_value_after 10 m ds * 10 ^ (scale - length ds))
unfolding without_end
zeros m scale [] h = (omega arith, refl)
zeros m zero (d ∷ ds) h = absurd (omega arith)
zeros m (suc s) (d ∷ ds) h =
    let rest = without_end is_zero_digit ds in
    let more = zeros (m * 10 + digit_value d) s ds (omega arith) in
    let left : suc s - length (d ∷ ds) ≡ s - length ds = omega arith in
    elim (cases_Bool (is_zero_digit d && eqb (length rest) 0)) [
      | inl e ↦ (
          let parts = and_parts _ _ e in
          let digit : digit_value d ≡ 0 = rw (eqb-true d 48 parts.0) in
          let all : suc s - 0 ≡ suc s = omega arith in
          let others : s - 0 ≡ s = omega arith in
          let worth : (m * 10 + 0) * 10 ^ s ≡ digits_value_after 10 (m * 10 + 0) ds * 10 ^ (s - length ds) = rw (digit, nil_from_length rest (eqb-true _ 0 parts.1), others) at more.1 in
          rw (e, left) (omega arith, rw (all, digit, pow-succ' 10 s) (omega (arith, worth))))
      | inr e ↦ (
          let kept : suc s - length (d ∷ rest) ≡ s - length rest = omega arith in
          rw (e, left, kept) (omega (arith, more.0), more.1))
    ]

-- a numeral without an exponent
abbrev parts_of : Bool → List ℕ → List ℕ → Parts
parts_of point whole fraction = record {
  whole = whole;
  point = point;
  fraction = fraction;
  exponent_negative = false;
  exponent = [];
  len = length (whole ++ (cond point (46 ∷ fraction) [] ++ []));
}

numeral_unblanked : (point : Bool) (whole fraction : List ℕ) → AllDigits 10 whole → AllDigits 10 fraction → list_any is_blank (text_of (parts_of point whole fraction)) ≡ false
numeral_unblanked true whole fraction p q = rw (append-nil fraction, list_any-append is_blank whole (46 ∷ fraction), digits_unblanked whole p) (digits_unblanked fraction q)
numeral_unblanked false whole fraction p q = rw (append-nil whole) (digits_unblanked whole p)

-- what a whole part and a fraction are in units of 10^-scale
abbrev units : ℕ → List ℕ → List ℕ → ℕ
units scale whole fraction = digits_value 10 whole * 10 ^ scale + digits_value 10 fraction * 10 ^ (scale - length fraction)

-- what digits write, perhaps with a point and a fraction that is no longer than the scale
module _ (scale : ℕ) (point : Bool) (whole fraction : List ℕ) (whole_all : AllDigits 10 whole) (some : 0 < length whole) (fraction_all : AllDigits 10 fraction)
    (short : length fraction ≤ scale) (no_point : point ≡ false → fraction ≡ []) (small : units scale whole fraction ≤ 10 ^ 17) where
  abbrev parts : Parts
  parts = parts_of point whole fraction

  worth : (length (without_end is_zero_digit fraction) ≤ scale) × (digits_value 10 (digits_of parts) * 10 ^ (scale - length (without_end is_zero_digit fraction)) ≡ units scale whole fraction)
  worth =
      let kept = zeros (digits_value 10 whole) scale fraction short in
      (kept.0, rw (value_after-append 0 whole (without_end is_zero_digit fraction), tens_split (length fraction) scale short) (kept.1 ∙ rw value_after-is (omega arith)))

  pub amount-read : decimal_value scale (text_of parts) ≡ Ok (units scale whole fraction)
  unfolding decimal_value
  amount-read =
      let all : AllDigits 10 (digits_of parts) = AllDigits-append whole _ whole_all (AllDigits-without_end is_zero_digit fraction fraction_all) in
      let unsigned = without_leading_plus_none (text_of parts) (λ e. omega (arith, get_or_append_left whole (cond point (46 ∷ fraction) [] ++ []) 0 0 some, digit_at whole 0 whole_all some)) in
      let scanned = scan_numeral-text_of parts (record {
        whole_digits = whole_all;
        fraction_digits = fraction_all;
        exponent_digits = tt;
        no_point = no_point;
        no_exponent = λ e. refl;
        len_is = refl;
      }) in
      let value = digits_value 10 (digits_of parts) in
      let exact : half_up (numerator scale parts) (denominator parts) ≡ units scale whole fraction = rw (add-zero, add-zero) (moved-up value scale _ worth.0 ∙ worth.1) in
      let few : value < 10 ^ 18 = omega (arith, worth.1, mul-le-mul_left value (one-le-pow (scale - length (without_end is_zero_digit fraction)) 10 (lit< tt))) in
      rw (unblanked (text_of parts) (numeral_unblanked point whole fraction whole_all fraction_all), unsigned, scanned, lt-ltb 0 (length whole + length fraction) (omega arith), eq-eqb (length (text_of parts)) (length (text_of parts)) refl)
      (amount_of-is scale parts all ∙ rw (lt-leb (10 ^ 18) value few, exact, le-ltb (10 ^ 17) (units scale whole fraction) small))

-- an amount with two or six decimals is read as that amount
pub amount_plain : (scale n : ℕ) → (scale ≡ 2) ⊎ (scale ≡ 6) → n ≤ 10 ^ 17 → decimal_value scale (plain scale n) ≡ Ok n
amount_plain scale n known small =
    let front = decimal (n / 10 ^ scale) in
    let fraction = padded_digits scale n in
    let less : n / 10 ^ scale ≤ n = div-le_self n (10 ^ scale) in
    let numeral = decimal_is_IsNumeral (n / 10 ^ scale) (omega arith) in
    let long : length fraction ≡ scale = length-padded_digits scale n in
    let places : scale - length fraction ≡ 0 = omega (arith, long) in
    let value : units scale front fraction ≡ n = rw (numeral.1, digits_value-padded_digits scale n, places) (omega (arith, one-le-pow scale 10 (lit< tt))) in
    let read = amount-read scale true front fraction numeral.0.1 numeral.0.0 (padded_digits-digits scale n) (omega (arith, long)) (λ e. cc e) (omega (arith, value)) in
    rw (plain-decimals scale n (omega arith)) (rw append-nil at read ∙ ap Ok value)

-- digits, a point and decimals at the front of a text
pub point-split : (text : List ℕ) (count more : ℕ) → begins_with_point (drop count text) ≡ true → take (count + (1 + more)) text ≡ take count text ++ 46 ∷ take more (drop (count + 1) text)
point-split text count more point =
    let one : 1 + more ≡ suc more = omega arith in
    rw (one, take-add count (suc more) text, point_first (drop count text) point) (ap (λ xs. take count text ++ 46 ∷ take more xs) (drop-drop 1 count text))
  where
    point_first : (xs : List ℕ) → begins_with_point xs ≡ true → xs ≡ 46 ∷ drop 1 xs
    point_first [] h = absurd (false≢true h)
    point_first (b ∷ rest) h = ap (λ c. c ∷ rest) (eqb-true b 46 h)

module _ (scale : ℕ) (text : List ℕ) (count : ℕ) (some : 0 < count) (within : count ≤ length text) (all : AllDigits 10 (take count text)) where
  pub front_whole : digits_value 10 (take count text) * 10 ^ scale ≤ 10 ^ 17 → decimal_value scale (take count text) ≡ Ok (digits_value 10 (take count text) * 10 ^ scale)
  front_whole small =
      let long : length (take count text) ≡ count = length-take-le count text within in
      let read = amount-read scale false (take count text) [] all (omega arith) tt (omega arith) (λ e. refl) (omega arith) in
      rw append-nil at read ∙ ap Ok (omega arith)

  module _ (more : ℕ) (decimals : 0 < more) (short : more ≤ scale) (point : begins_with_point (drop count text) ≡ true) (behind : count + 1 + more ≤ length text) (digits : AllDigits 10 (take more (drop (count + 1) text))) where
    pub front_point : digits_value 10 (take count text) * 10 ^ scale + digits_value 10 (take more (drop (count + 1) text)) * 10 ^ (scale - more) ≤ 10 ^ 17
        → decimal_value scale (take (count + (1 + more)) text) ≡ Ok (digits_value 10 (take count text) * 10 ^ scale + digits_value 10 (take more (drop (count + 1) text)) * 10 ^ (scale - more))
    front_point small =
        let long : length (take count text) ≡ count = length-take-le count text within in
        let places : length (take more (drop (count + 1) text)) ≡ more = length-take-le more (drop (count + 1) text) (omega (arith, length-drop (count + 1) text)) in
        let fits : units scale (take count text) (take more (drop (count + 1) text)) ≤ 10 ^ 17 = rw places small in
        let read = amount-read scale true (take count text) (take more (drop (count + 1) text)) all (omega arith) digits (omega arith) (λ e. cc e) fits in
        rw point-split (rw (append-nil, places) at read)

-- at most eleven digits, and fewer decimals than the scale has, are an amount below the limit
pub units_fit : (scale whole fraction more : ℕ) → whole < 10 ^ 11 → scale ≤ 6 → more ≤ scale → fraction < 10 ^ more → whole * 10 ^ scale + fraction * 10 ^ (scale - more) ≤ 10 ^ 17
units_fit scale whole fraction more front small short behind =
    omega (arith, tens_rise scale 6 small, mul-le-mul_right (10 ^ scale) front, tens_split more scale short, mul-le-mul_right (10 ^ (scale - more)) behind)

pub ruleset front_amounts = (front_whole, front_point, units_fit, few_digits, take_rest)

pub ruleset front_counts = (count-of_digits, few_digits, length-take-le)

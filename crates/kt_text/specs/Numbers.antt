-- The number that a text stands for, or the first cause why it stands for none.
-- The rule: docs/TABLES.md, "Numbers in a text".
use Rattle.std.specs.Prelude.{ℕ, ◌+◌, ◌*◌, ◌^◌, ◌==◌, ◌&&◌, Bool, not, List, ◌++◌, length, nat_lt, if◌then◌else◌, Result, Ok, Err}
use Rattle.std.specs.Char.{is_ascii_digit}
use Rattle.std.specs.List.{list_all}
use Rattle.std.specs.Str.Parse.{digits_value}
use Rattle.std.specs.Float.Numeral.{Parts, scan_numeral, has_digits}
use Rattle.kt_money.specs.Rounding.{half_up}
use Rattle.kt_text.specs.Trimming.{without_front, without_end, without_blanks, without_leading_plus, is_zero_digit}
use Rattle.kt_text.specs.declared.bad_text.BadText.{BadText}
use Rattle.kt_text.specs.declared.bad_text.BadText.TheVariants.{NotANumber, TooManyDigits, ExponentRange, TooLarge}

-- a number has at most so many digits, an exponent is at most so far from 0, and an amount at most so large
abbrev pub most_digits : ℕ
most_digits = 18

abbrev pub farthest_exponent : ℕ
farthest_exponent = 30

abbrev pub largest_amount : ℕ
largest_amount = 10 ^ 17

-- the digits from the first on that is not 0
abbrev pub significant : List ℕ → List ℕ
significant digits = without_front is_zero_digit digits

-- more digits than a number may have
abbrev pub has_too_many_digits : List ℕ → Bool
has_too_many_digits digits = nat_lt most_digits (length (significant digits))

-- one digit or more, and nothing else
abbrev pub are_digits : List ℕ → Bool
are_digits text = not (length text == 0) && list_all is_ascii_digit text

-- the count that a text without blanks writes
abbrev pub count_in : List ℕ → Result ℕ BadText
count_in text =
    if not (are_digits text) then Err NotANumber
    else if has_too_many_digits text then Err TooManyDigits
    else Ok (digits_value 10 text)

-- the count that a text stands for
unfoldable pub count_value : List ℕ → Result ℕ BadText
count_value text = count_in (without_blanks text)

-- the digits behind the point that are worth something
abbrev pub worthy_fraction : Parts → List ℕ
worthy_fraction p = without_end is_zero_digit p.fraction

-- the digits before and behind the point
abbrev pub digits_of : Parts → List ℕ
digits_of p = p.whole ++ worthy_fraction p

-- the exponent without its sign, 0 where there is none
abbrev pub exponent_of : Parts → ℕ
exponent_of p = digits_value 10 p.exponent

-- the value in units of 10^-scale is a whole number
abbrev pub numerator : ℕ → Parts → ℕ
numerator scale p = digits_value 10 (digits_of p) * 10 ^ (scale + (if p.exponent_negative then 0 else exponent_of p))

-- divided by a power of ten
abbrev pub denominator : Parts → ℕ
denominator p = 10 ^ (length (worthy_fraction p) + (if p.exponent_negative then exponent_of p else 0))

-- the amount, unless it is too large
abbrev pub within_limit : ℕ → Result ℕ BadText
within_limit amount = if nat_lt largest_amount amount then Err TooLarge else Ok amount

-- the amount that the parts of a numeral write, rounded half up once
abbrev pub amount_of : ℕ → Parts → Result ℕ BadText
amount_of scale p =
    if has_too_many_digits (digits_of p) then Err TooManyDigits
    else if nat_lt farthest_exponent (exponent_of p) then Err ExponentRange
    else within_limit (half_up (numerator scale p) (denominator p))

-- a numeral with a digit before its exponent, and nothing behind it
abbrev pub is_whole_numeral : List ℕ → Bool
is_whole_numeral text = has_digits (scan_numeral text) && ((scan_numeral text).len == length text)

-- the amount that a text without blanks and plus writes
abbrev pub amount_in : ℕ → List ℕ → Result ℕ BadText
amount_in scale text = if is_whole_numeral text then amount_of scale (scan_numeral text) else Err NotANumber

-- the amount that a text stands for, in units of 10^-scale
unfoldable pub decimal_value : ℕ → List ℕ → Result ℕ BadText
decimal_value scale text = amount_in scale (without_leading_plus (without_blanks text))

-- Laws of number texts: their lengths, their digits and the value of those.
-- The rule: docs/CALCULATION.md, "Number texts".
use Rattle.std.specs.Prelude.{ℕ, zero, suc, ◌≡◌, ◌+◌, ◌*◌, ◌/◌, ◌%◌, ◌^◌, ◌<◌, ◌≤◌, [], ◌∷◌, ◌++◌, length, decimal}
use Rattle.std.specs.Char.{digit_value}
use Rattle.std.specs.Str.Parse.{AllDigits, digits_value}
use Rattle.std.proofs.Common.{arith, refl, length-append}
use Rattle.std.proofs.lemmas.Bool.Decides.{nat_tests}
use Rattle.std.proofs.lemmas.Int.Digits.{digits_push, digits_value_push}
use Rattle.std.proofs.Math.Arith.{mod-mul}
use Rattle.std.proofs.Math.Nat.{pow-suc, one-le-pow}
use Rattle.kt_money.specs.NumberText.{padded_digits, plain}

-- padded digits are as many as their width
pub length-padded_digits : (width n : ℕ) → length (padded_digits width n) ≡ width
unfolding padded_digits
length-padded_digits zero n = refl
length-padded_digits (suc width) n =
    omega (arith, length-append (padded_digits width (n / 10)) ((48 + n % 10) ∷ []), length-padded_digits width (n / 10))

-- padded digits need the last digits alone
pub padded_digits-mod : (width n : ℕ) → padded_digits width (n % 10 ^ width) ≡ padded_digits width n
unfolding padded_digits
padded_digits-mod zero n = refl
padded_digits-mod (suc width) n =
    let positive : 1 ≤ 10 ^ width = one-le-pow width 10 (omega arith) in
    let split : n % 10 ^ suc width ≡ (n / 10 % 10 ^ width) * 10 + n % 10 = rw pow-suc (mod-mul n positive (omega arith)) in
    let front : n % 10 ^ suc width / 10 ≡ n / 10 % 10 ^ width = omega arith in
    let last : n % 10 ^ suc width % 10 ≡ n % 10 = omega arith in
    rw (front, last, padded_digits-mod width (n / 10))

-- a number with decimals, where there are some
pub plain-decimals : (scale n : ℕ) → 1 ≤ scale → plain scale n ≡ decimal (n / 10 ^ scale) ++ 46 ∷ padded_digits scale n
unfolding plain
plain-decimals zero n some = absurd (omega arith)
plain-decimals (suc s) n some = refl

-- the value of one digit's byte
digit_value-byte : (d : ℕ) → d < 10 → digit_value (48 + d) ≡ d
digit_value-byte d small = grind (arith, nat_tests)

-- padded digits are digits
pub padded_digits-digits : (width n : ℕ) → AllDigits 10 (padded_digits width n)
unfolding padded_digits
padded_digits-digits zero n = tt
padded_digits-digits (suc width) n =
    let small : n % 10 < 10 = omega arith in
    digits_push 10 (padded_digits width (n / 10)) (48 + n % 10) (padded_digits-digits width (n / 10))
    (omega (arith, digit_value-byte (n % 10) small))

-- padded digits have the value of the last digits
pub digits_value-padded_digits : (width n : ℕ) → digits_value 10 (padded_digits width n) ≡ n % 10 ^ width
unfolding padded_digits
digits_value-padded_digits zero n = omega arith
digits_value-padded_digits (suc width) n =
    let small : n % 10 < 10 = omega arith in
    let split : n % 10 ^ suc width ≡ (n / 10 % 10 ^ width) * 10 + n % 10 =
    rw pow-suc (mod-mul n (one-le-pow width 10 (omega arith)) (omega arith)) in
    rw (split, digits_value_push 10 (padded_digits width (n / 10)) (48 + n % 10), digits_value-padded_digits width (n / 10), digit_value-byte (n % 10) small) refl

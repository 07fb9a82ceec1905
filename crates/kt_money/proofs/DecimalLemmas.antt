-- Digits behind a one in front are the padded digits.
use Rattle.std.proofs.Common.{◌≡◌, ℕ, zero, suc, ◌+◌, ◌*◌, ◌/◌, ◌%◌, ◌^◌, ◌<◌, ◌≤◌, List, ◌∷◌, ◌++◌, length, decimal, arith, refl, sym, ap, ◌∙◌, length-append, append_assoc, take, drop, set}
use Rattle.std.proofs.lemmas.Fmt.{decimal_digit, decimal_step, length-decimal-le}
use Rattle.std.proofs.lemmas.List.{drop-drop, drop-set, take-set-le, take-take}
use Rattle.std.proofs.lemmas.Nat.{mod_below}
use Rattle.std.proofs.Math.Nat.{pow-suc, one-le-pow, pow-le-pow_right, div-le_self}
use Rattle.kt_money.specs.NumberText.{padded_digits, plain}
use Rattle.kt_money.specs.NumberTextLaws.{length-padded_digits, padded_digits-mod, plain-decimals}

-- a number below ten to the width, behind a one
pub decimal-behind_one : (width n m : ℕ) → m ≡ 10 ^ width + n → n < 10 ^ width → m < 2 ^ 64 →
    decimal m ≡ 49 ∷ padded_digits width n
unfolding padded_digits
decimal-behind_one zero n m is small fits = let one : m ≡ 1 = omega arith in rw one (decimal_digit 1 (omega arith))
decimal-behind_one (suc width) n m is small fits =
    let unit : ℕ = 10 ^ width in
    let positive : 1 ≤ unit = one-le-pow width 10 (omega arith) in
    let tenfold : 10 ^ suc width ≡ unit * 10 = pow-suc 10 width in
    let front : m / 10 ≡ unit + n / 10 = omega arith in
    let last : m % 10 ≡ n % 10 = omega arith in
    rw (decimal_step m (omega arith) fits, last, decimal-behind_one width (n / 10) (m / 10) front (omega arith) (omega arith)) refl

-- a unit of at most six decimals
pub unit_bounds : (scale unit : ℕ) → unit ≡ 10 ^ scale → scale ≤ 6 → (0 < unit) × (unit ≤ 10 ^ 6)
unit_bounds scale unit is few =
    let positive : 1 ≤ 10 ^ scale = one-le-pow scale 10 (omega arith) in
    let small : 10 ^ scale ≤ 10 ^ 6 = pow-le-pow_right (omega arith) few in
    (omega arith, omega arith)

-- a unit and what is left of n: a one and the decimals of n
pub decimals-behind_one : (scale unit n : ℕ) → unit ≡ 10 ^ scale → scale ≤ 6 → decimal (unit + n % unit) ≡ 49 ∷ padded_digits scale n
decimals-behind_one scale unit n is few =
    let bounds = unit_bounds scale unit is few in
    let below : n % unit < unit = mod_below n unit bounds.0 in
    let behind : decimal (unit + n % unit) ≡ 49 ∷ padded_digits scale (n % unit) =
    decimal-behind_one scale (n % unit) (unit + n % unit) (omega arith) (omega arith) (omega arith) in
    behind ∙ ap (λ ds. 49 ∷ ds) (rw is (padded_digits-mod scale n))

-- the text of the decimals is longer than the scale by one
pub length-decimals : (scale unit n : ℕ) → unit ≡ 10 ^ scale → scale ≤ 6 → length (decimal (unit + n % unit)) ≡ scale + 1
length-decimals scale unit n is few =
    rw (decimals-behind_one scale unit n is few) (omega (arith, length-padded_digits scale n))

-- the length of a number with decimals
pub length-plain : (scale unit n : ℕ) → unit ≡ 10 ^ scale → 1 ≤ scale → length (plain scale n) ≡ length (decimal (n / unit)) + (scale + 1)
length-plain scale unit n is some =
    rw (plain-decimals scale n some, ← is)
    (omega (arith, length-append (decimal (n / unit)) (46 ∷ padded_digits scale n), length-padded_digits scale n))

-- the whole part in front of a point, which stands in the place of the one
pub plain-written : (scale unit n start point end : ℕ) (text first second : List ℕ) → unit ≡ 10 ^ scale → 1 ≤ scale → scale ≤ 6 →
    point < length first → drop point first ≡ decimal (unit + n % unit) ++ drop end text →
    drop start second ≡ decimal (n / unit) ++ drop point (set first point 46) →
    drop start second ≡ plain scale n ++ drop end text
plain-written scale unit n start point end text first second is some few inside decimals whole =
    let shown : drop point first ≡ 49 ∷ (padded_digits scale n ++ drop end text) =
    decimals ∙ ap (λ ds. ds ++ drop end text) (decimals-behind_one scale unit n is few) in
    let behind : drop (point + 1) first ≡ padded_digits scale n ++ drop end text =
    sym (drop-drop 1 point first) ∙ ap (drop 1) shown in
    rw (whole, drop-set first point 46 inside, behind, plain-decimals scale n some, ← is, append_assoc) refl

-- what stands before both texts stays
pub before-kept : (start point : ℕ) (text first second : List ℕ) → start ≤ point → take point first ≡ take point text →
    take start second ≡ take start (set first point 46) → take start second ≡ take start text
before-kept start point text first second order outer inner =
    inner ∙ take-set-le start first point 46 order ∙ sym (take-take start point first order) ∙ ap (take start) outer ∙ take-take start point text order

-- a number of 64 bits has at most 20 digits in front of its decimals
pub length-plain-le : (scale unit n : ℕ) → unit ≡ 10 ^ scale → 1 ≤ scale → n < 2 ^ 64 → length (plain scale n) ≤ 21 + scale
length-plain-le scale unit n is some fits =
    let small : n / unit ≤ n = div-le_self n unit in
    omega (arith, length-plain scale unit n is some, length-decimal-le 20 (n / unit) (omega arith) (omega arith) (omega arith))

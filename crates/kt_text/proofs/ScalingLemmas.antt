-- Rounding half up by powers of ten.
use Rattle.std.proofs.Common.{◌≡◌, ℕ, zero, suc, ◌+◌, ◌-◌, ◌*◌, ◌/◌, ◌^◌, ◌<◌, ◌≤◌, min, sym, ap, ◌∙◌, arith, lit<}
use Rattle.std.proofs.Math.Nat.{div-lt_iff_lt-mul, div-eq_of_lt-le, pow-succ', mul-div-mul_right, one-le-pow, pow-le-pow_right, mul-le-mul_left, mul-le-mul_right}
use lib.Pow.{pow-add}
use Rattle.kt_money.specs.Rounding.{half_up}

-- powers of ten rise
pub tens_rise : (few many : ℕ) → few ≤ many → 10 ^ few ≤ 10 ^ many
tens_rise few many h = pow-le-pow_right (lit< tt) h

-- and each is a multiple of those below it
pub tens_split : (few many : ℕ) → few ≤ many → 10 ^ many ≡ 10 ^ (many - few) * 10 ^ few
tens_split few many h = rw (← pow-add) (ap (λ k. 10 ^ k) (omega arith))

-- a factor that both terms have may go
half_up-cancel : (a b u : ℕ) → 0 < u → half_up (a * u) (b * u) ≡ half_up a b
half_up-cancel a b u h =
    let top : 2 * (a * u) + b * u ≡ (2 * a + b) * u = omega arith in
    let bottom : 2 * (b * u) ≡ (2 * b) * u = omega arith in
    rw (top, bottom) (mul-div-mul_right (2 * a + b) (2 * b) h)

-- less than half of the divisor rounds to nothing
half_up-small : (a b : ℕ) → 0 < b → 2 * a < b → half_up a b ≡ 0
half_up-small a b p h = div-eq_of_lt-le (2 * b) (omega arith) (omega arith)

-- with 18 places or more there is nothing between 0 and 10^18
pub raised-capped : (digits places : ℕ) → min (digits * 10 ^ min places 18) (10 ^ 18) ≡ min (digits * 10 ^ places) (10 ^ 18)
raised-capped digits places = grind (arith, tens_rise 18 places, mul-le-mul_right {m = 1} {n = digits} (10 ^ places))

-- at 19 places or more nothing is left of 18 digits
lowered-capped : (digits places : ℕ) → digits < 10 ^ 18 → half_up digits (10 ^ min places 19) ≡ half_up digits (10 ^ places)
lowered-capped digits places h = grind (arith, tens_rise 19 places, half_up-small digits (10 ^ 19), half_up-small digits (10 ^ places))

-- a power of ten above 1 is even, and half of it may be added in place of the doubling
half_up-ten : (digits places : ℕ) → 0 < places → (digits + 10 ^ places / 2) / 10 ^ places ≡ half_up digits (10 ^ places)
half_up-ten digits zero h = absurd (omega arith)
half_up-ten digits (suc n) h =
    let half = 5 * 10 ^ n in
    let even : 10 ^ suc n ≡ half * 2 = omega (arith, pow-succ' 10 n) in
    let middle : half * 2 / 2 ≡ half = omega arith in
    let top : 2 * digits + half * 2 ≡ (digits + half) * 2 = omega arith in
    rw (even, middle, top) (sym (mul-div-mul_right (digits + half) (half * 2) (lit< tt)) ∙ ap (λ b. (digits + half) * 2 / b) (omega arith))

-- both in one
pub lowered-is : (digits places : ℕ) → digits < 10 ^ 18 → 0 < places → (digits + 10 ^ min places 19 / 2) / 10 ^ min places 19 ≡ half_up digits (10 ^ places)
lowered-is digits places h some = half_up-ten digits (min places 19) (omega arith) ∙ lowered-capped digits places h

-- the power of ten that both terms have goes
pub moved-up : (digits up down : ℕ) → down ≤ up → half_up (digits * 10 ^ up) (10 ^ down) ≡ digits * 10 ^ (up - down)
moved-up digits up down h =
    let whole = digits * 10 ^ (up - down) in
    let split : digits * 10 ^ up ≡ whole * 10 ^ down = rw (tens_split down up h) (omega arith) in
    rw split (div-eq_of_lt-le (2 * 10 ^ down) (omega arith) (omega (arith, one-le-pow down 10 (lit< tt))))

-- and where more places go down than up
pub moved-down : (digits up down : ℕ) → up ≤ down → half_up (digits * 10 ^ up) (10 ^ down) ≡ half_up digits (10 ^ (down - up))
moved-down digits up down h = rw (tens_split up down h) (half_up-cancel _ _ _ (one-le-pow up 10 (lit< tt)))

-- rounding does not raise a whole number above it
pub lowered-below : (digits places : ℕ) → half_up digits (10 ^ places) ≤ digits
lowered-below digits places =
    let some : 1 ≤ 10 ^ places = one-le-pow places 10 (lit< tt) in
    grind (arith, div-lt_iff_lt-mul {k = 2 * 10 ^ places} {x = 2 * digits + 10 ^ places} {y = digits + 1}, mul-le-mul_left digits some)

pub ruleset scaling = (raised-capped, lowered-is, moved-up, moved-down, lowered-below, one-le-pow)

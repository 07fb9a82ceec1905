-- The spread n * squares - total * total by the quotient and the rest of the total, without the product n * squares.
use Rattle.std.proofs.Common.{◌≡◌, ℕ, ◌+◌, ◌-◌, ◌*◌, ◌/◌, ◌<◌, ◌≤◌, arith, sym, ◌∙◌, ap}
use Rattle.std.proofs.lemmas.Nat.{div-mul-add}
use Rattle.std.proofs.Math.Nat.{le_of_mul-le-mul_left, div-lt_iff_lt-mul, div-mul-le_self, lt-div-mul-add, div-div-eq-div-mul, mul-add, add-mul, mul_comm}

-- the square of a total, by its quotient and its rest
pub square_split : (n whole rest : ℕ) →
    (whole * n + rest) * (whole * n + rest) ≡ n * (whole * (whole * n + rest + rest)) + rest * rest
square_split n whole rest = omega arith

-- the room of the spread, by the quotient and the rest of the total
pub split_room : (n whole rest squares : ℕ) → (whole * n + rest) * (whole * n + rest) ≤ n * squares →
    n * (whole * (whole * n + rest + rest)) + rest * rest ≤ n * squares
split_room n whole rest squares room = omega (arith, square_split n whole rest)

-- the part of the squares that n amounts of the whole mean take
pub even_part-le : (n even part squares : ℕ) → 0 < n → n * even + part ≤ n * squares → even ≤ squares
even_part-le n even part squares positive bound = le_of_mul-le-mul_left (omega arith) positive

-- what is left covers the rest's square
pub left_covers : (n even part squares : ℕ) → 0 < n → n * even + part ≤ n * squares → part ≤ (squares - even) * n
left_covers n even part squares positive bound =
    let below : even ≤ squares = even_part-le n even part squares positive bound in
    let whole : squares ≡ even + (squares - even) = omega arith in
    let split : n * squares ≡ n * even + n * (squares - even) = ap (λ s. n * s) whole ∙ mul-add n even (squares - even) in
    omega arith

-- the rest's square, divided up, is at most what is left
pub carried-le : (n even part squares : ℕ) → 0 < n → n * even + part ≤ n * squares → (part + (n - 1)) / n ≤ squares - even
carried-le n even part squares positive bound =
    let covers : part ≤ (squares - even) * n = left_covers n even part squares positive bound in
    let less : (part + (n - 1)) / n < squares - even + 1 = (div-lt_iff_lt-mul positive).1 (omega arith) in
    omega arith

-- the spread divided by n, for any count of whole parts that the rest's square takes
pub spread_by_parts : (n even part squares left carried : ℕ) → squares ≡ even + left → carried ≤ left →
    part ≤ carried * n → carried * n < part + n → (n * squares - (n * even + part)) / n ≡ left - carried
spread_by_parts n even part squares left carried whole fits low high =
    let kept : left ≡ (left - carried) + carried = omega arith in
    let split : n * squares ≡ n * even + ((left - carried) * n + carried * n) =
    ap (λ s. n * s) whole ∙ mul-add n even left ∙ ap (λ x. n * even + x) (mul_comm n left ∙ ap (λ x. x * n) kept ∙ add-mul (left - carried) carried n) in
    let spread : n * squares - (n * even + part) ≡ (left - carried) * n + (carried * n - part) = omega arith in
    rw spread (div-mul-add (left - carried) n (carried * n - part) (omega arith))

-- the spread divided by n
spread_over_n : (n even part squares : ℕ) → 0 < n → n * even + part ≤ n * squares →
    (n * squares - (n * even + part)) / n ≡ squares - even - (part + (n - 1)) / n
spread_over_n n even part squares positive bound =
    let left : ℕ = squares - even in
    let carried : ℕ = (part + (n - 1)) / n in
    let below : even ≤ squares = even_part-le n even part squares positive bound in
    let covers : part ≤ left * n = left_covers n even part squares positive bound in
    let fits : carried ≤ left = carried-le n even part squares positive bound in
    let low : carried * n ≤ part + (n - 1) = div-mul-le_self (part + (n - 1)) n in
    let high : part + (n - 1) < carried * n + n = lt-div-mul-add positive in
    spread_by_parts n even part squares left carried (omega arith) (omega arith) (omega arith) (omega arith)

-- the spread divided by n and by n - 1
pub spread_quotient : (n even part squares : ℕ) → 0 < n → n * even + part ≤ n * squares →
    (squares - even - (part + (n - 1)) / n) / (n - 1) ≡ (n * squares - (n * even + part)) / (n * (n - 1))
spread_quotient n even part squares positive bound =
    ap (λ x. x / (n - 1)) (sym (spread_over_n n even part squares positive bound))
    ∙ div-div-eq-div-mul (n * squares - (n * even + part)) n (n - 1)

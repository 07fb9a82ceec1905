-- The variance of weighted amounts, by the quotient and the rest of their sum.
use Rattle.std.proofs.Common.{◌≡◌, ℕ, ◌+◌, ◌-◌, ◌*◌, ◌/◌, ◌<◌, ◌≤◌, arith, sym, ◌∙◌, ap}
use Rattle.std.proofs.lemmas.Nat.{div-mul-add, mul-le}
use Rattle.std.proofs.Math.Nat.{div-lt_iff_lt-mul, div-mul-le_self, lt-div-mul-add, div-div-eq-div-mul, mul-add-div, mul-sub, mul-add}
use Rattle.kt_money.proofs.SpreadLemmas.{spread_by_parts, left_covers, even_part-le}

-- a quotient, where what is left over covers what is taken
pub quotient_within : (count times rest lost divisor : ℕ) → 0 < divisor → lost ≤ count * rest →
    count * times + (count * rest - lost) / divisor ≡ (count * (times * divisor + rest) - lost) / divisor
quotient_within count times rest lost divisor positive covered =
    let split : count * (times * divisor + rest) - lost ≡ divisor * (count * times) + (count * rest - lost) =
    (let whole : count * (times * divisor + rest) ≡ divisor * (count * times) + count * rest = omega arith in omega arith) in
    rw split (sym (mul-add-div positive (count * times) (count * rest - lost)))

-- a number of whole parts less something, divided
less_divided : (parts over divisor up : ℕ) → up ≤ parts → over ≤ up * divisor → up * divisor < over + divisor →
    parts - up ≡ (parts * divisor - over) / divisor
less_divided parts over divisor up few low high =
    let split : parts * divisor ≡ (parts - up) * divisor + up * divisor =
    (let whole : parts ≡ (parts - up) + up = omega arith in ap (λ x. x * divisor) whole ∙ omega arith) in
    let taken : parts * divisor - over ≡ (parts - up) * divisor + (up * divisor - over) = omega arith in
    rw taken (sym (div-mul-add (parts - up) divisor (up * divisor - over) (omega arith)))

-- how many parts cover what is missing
pub parts_missing-le : (parts over divisor : ℕ) → 0 < divisor → over ≤ parts * divisor → (over + (divisor - 1)) / divisor ≤ parts
parts_missing-le parts over divisor positive enough =
    let less : (over + (divisor - 1)) / divisor < parts + 1 = (div-lt_iff_lt-mul positive).1 (omega arith) in omega arith

-- what is missing is not more than there is
pub missing-le : (count times rest lost divisor : ℕ) → lost ≤ count * (times * divisor + rest) →
    lost - count * rest ≤ count * times * divisor
missing-le count times rest lost divisor within =
    let whole : count * (times * divisor + rest) ≡ count * times * divisor + count * rest = omega arith in omega arith

-- a quotient, where what is left over does not cover what is taken
pub quotient_beyond : (count times rest lost divisor : ℕ) → 0 < divisor → count * rest < lost →
    lost ≤ count * (times * divisor + rest) →
    count * times - (lost - count * rest + (divisor - 1)) / divisor ≡ (count * (times * divisor + rest) - lost) / divisor
quotient_beyond count times rest lost divisor positive short within =
    let over : ℕ = lost - count * rest in
    let up : ℕ = (over + (divisor - 1)) / divisor in
    let enough : over ≤ count * times * divisor = missing-le count times rest lost divisor within in
    let few : up ≤ count * times = parts_missing-le (count * times) over divisor positive enough in
    let low : up * divisor ≤ over + (divisor - 1) = div-mul-le_self (over + (divisor - 1)) divisor in
    let high : over + (divisor - 1) < up * divisor + divisor = lt-div-mul-add positive in
    let whole : count * (times * divisor + rest) ≡ count * times * divisor + count * rest = omega arith in
    let left : count * (times * divisor + rest) - lost ≡ count * times * divisor - over = omega arith in
    rw left (less_divided (count * times) over divisor up few (omega arith) (omega arith))

-- the rest's square, for all amounts, divided up, is at most what is left for them
pub lost-within : (count weights even part squares : ℕ) → 0 < weights → weights * even + part ≤ weights * squares →
    (count * part + (weights - 1)) / weights ≤ count * (squares - even)
lost-within count weights even part squares positive bound =
    let covers : part ≤ (squares - even) * weights = left_covers weights even part squares positive bound in
    let all : count * part ≤ count * ((squares - even) * weights) = mul-le count part count ((squares - even) * weights) (omega arith) covers in
    let turned : count * ((squares - even) * weights) ≡ count * (squares - even) * weights = omega arith in
    let less : (count * part + (weights - 1)) / weights < count * (squares - even) + 1 = (div-lt_iff_lt-mul positive).1 (omega arith) in
    omega arith

-- the spread of all amounts divided by the weights
spread_by_weights : (count weights even part squares : ℕ) → 0 < weights → weights * even + part ≤ weights * squares →
    count * (weights * squares - (weights * even + part)) / weights ≡ count * (squares - even) - (count * part + (weights - 1)) / weights
spread_by_weights count weights even part squares positive bound =
    let left : ℕ = squares - even in
    let carried : ℕ = (count * part + (weights - 1)) / weights in
    let below : even ≤ squares = even_part-le weights even part squares positive bound in
    let covers : part ≤ left * weights = left_covers weights even part squares positive bound in
    let whole : squares ≡ even + left = omega arith in
    let split : weights * squares ≡ weights * even + weights * left = ap (λ s. weights * s) whole ∙ mul-add weights even left in
    let inner : weights * squares - (weights * even + part) ≡ weights * left - part = omega arith in
    let product : count * (weights * left - part) ≡ weights * (count * left) - (weights * 0 + count * part) =
    mul-sub count (weights * left) part ∙ (let turned : count * (weights * left) ≡ weights * (count * left) = omega arith in omega arith) in
    let low : carried * weights ≤ count * part + (weights - 1) = div-mul-le_self (count * part + (weights - 1)) weights in
    let high : count * part + (weights - 1) < carried * weights + weights = lt-div-mul-add positive in
    rw (inner, product)
    (spread_by_parts weights 0 (count * part) (count * left) (count * left) carried (omega arith)
    (lost-within count weights even part squares positive bound) (omega arith) (omega arith))

-- the variance, without the product of weights and squares
pub variance_quotient : (count weights even part squares : ℕ) → 0 < weights → weights * even + part ≤ weights * squares →
    (count * (squares - even) - (count * part + (weights - 1)) / weights) / (weights * (count - 1))
    ≡ count * (weights * squares - (weights * even + part)) / (weights * weights * (count - 1))
variance_quotient count weights even part squares positive bound =
    let product : weights * weights * (count - 1) ≡ weights * (weights * (count - 1)) = omega arith in
    rw product
    (ap (λ x. x / (weights * (count - 1))) (sym (spread_by_weights count weights even part squares positive bound))
    ∙ div-div-eq-div-mul (count * (weights * squares - (weights * even + part))) weights (weights * (count - 1)))

-- a number is its whole parts and what is left
whole_and_left : (spread divisor : ℕ) → spread / divisor * divisor + (spread - spread / divisor * divisor) ≡ spread
whole_and_left spread divisor = omega (arith, div-mul-le_self spread divisor)

-- the quotient of many, where what is left covers what is taken
pub quotient_covered : (count spread lost divisor : ℕ) → 0 < divisor → lost ≤ count * (spread - spread / divisor * divisor) →
    count * (spread / divisor) + (count * (spread - spread / divisor * divisor) - lost) / divisor ≡ (count * spread - lost) / divisor
quotient_covered count spread lost divisor positive covered =
    quotient_within count (spread / divisor) (spread - spread / divisor * divisor) lost divisor positive covered
    ∙ ap (λ x. (count * x - lost) / divisor) (whole_and_left spread divisor)

-- how many parts are missing, where what is left does not cover what is taken
pub missing_parts-le : (count spread lost divisor : ℕ) → 0 < divisor → lost ≤ count * spread →
    (lost - count * (spread - spread / divisor * divisor) + (divisor - 1)) / divisor ≤ count * (spread / divisor)
missing_parts-le count spread lost divisor positive within =
    let times : ℕ = spread / divisor in
    let rest : ℕ = spread - spread / divisor * divisor in
    let all : lost ≤ count * (times * divisor + rest) = rw (whole_and_left spread divisor) within in
    parts_missing-le (count * times) (lost - count * rest) divisor positive (missing-le count times rest lost divisor all)

-- the quotient of many, where what is left does not cover what is taken
pub quotient_short : (count spread lost divisor : ℕ) → 0 < divisor → count * (spread - spread / divisor * divisor) < lost →
    lost ≤ count * spread →
    count * (spread / divisor) - (lost - count * (spread - spread / divisor * divisor) + (divisor - 1)) / divisor ≡ (count * spread - lost) / divisor
quotient_short count spread lost divisor positive short within =
    let times : ℕ = spread / divisor in
    let rest : ℕ = spread - spread / divisor * divisor in
    let all : lost ≤ count * (times * divisor + rest) = rw (whole_and_left spread divisor) within in
    quotient_beyond count times rest lost divisor positive short all
    ∙ ap (λ x. (count * x - lost) / divisor) (whole_and_left spread divisor)

-- the quotient of many is at most twice what is divided
pub quotient-small : (count spread lost divisor : ℕ) → 1 < count → count - 1 ≤ divisor → (count * spread - lost) / divisor ≤ 2 * spread
quotient-small count spread lost divisor several many =
    let twice : count * spread ≤ 2 * divisor * spread = mul-le count spread (2 * divisor) spread (omega arith) (omega arith) in
    let turned : 2 * divisor * spread ≡ 2 * spread * divisor = omega arith in
    let positive : 0 < divisor = omega arith in
    let less : (count * spread - lost) / divisor < 2 * spread + 1 = (div-lt_iff_lt-mul positive).1 (omega arith) in omega arith

-- a square of each of many
pub squares_of_rest : (count rest : ℕ) → count * rest * rest ≡ count * (rest * rest)
squares_of_rest count rest = omega arith

-- Laws of the deviation of amounts with weights: it is the greatest number within its bounds, and with weights of 1 it is that without.
-- The rule: docs/CALCULATION.md, "Weighted mean and deviation".
use Rattle.std.specs.Prelude.{ℕ, ◌+◌, ◌-◌, ◌*◌, ◌/◌, ◌<◌, ◌≤◌, ◌≡◌, List, [], ◌∷◌, sum_by}
use Rattle.std.proofs.Common.{arith, ⊎_elim, ap, sym, ◌∙◌}
use Rattle.std.proofs.lemmas.Bool.{cases_lt}
use Rattle.std.proofs.lemmas.Bool.Decides.{nat_tests}
use Rattle.std.proofs.lemmas.List.Sums.{sum_by-cons}
use Rattle.std.proofs.lemmas.Nat.{mul-le}
use Rattle.std.proofs.Math.Nat.{le-div_iff_mul-le, div-lt_iff_lt-mul, mul-div-mul_left, mul-sub, mul-add, add-mul}
use Rattle.kt_money.specs.Rounding.{root, mean_of, deviation_of}
use Rattle.kt_money.specs.RoundingLaws.{root-is, twice_product}
use Rattle.kt_money.specs.Weighted.{weighted_variance_of, weighted_deviation_of, IsWeightedDeviation}

-- the deviation of a single amount
single_deviation : (count weights total squares : ℕ) → count ≤ 1 → weighted_deviation_of count weights total squares ≡ 0
single_deviation count weights total squares few = grind (arith, nat_tests)

-- the deviation of several amounts
pub several_deviation : (count weights total squares : ℕ) → 1 < count →
    weighted_deviation_of count weights total squares ≡ root (weighted_variance_of count weights total squares)
several_deviation count weights total squares many = grind (arith, nat_tests)

-- what the variance is divided by is above 0
divisor-positive : (count weights : ℕ) → 1 < count → 1 ≤ weights → 0 < weights * weights * (count - 1)
divisor-positive count weights many weighed =
    let square : 1 ≤ weights * weights = mul-le 1 1 weights weights weighed weighed in
    mul-le 1 1 (weights * weights) (count - 1) square (omega arith)

-- the deviation meets its defining bounds
pub weighted_deviation_of-is : (count weights total squares : ℕ) → 1 ≤ weights →
    IsWeightedDeviation count weights total squares (weighted_deviation_of count weights total squares)
weighted_deviation_of-is count weights total squares weighed =
    let x : ℕ = count * (weights * squares - total * total) in
    let m : ℕ = weights * weights * (count - 1) in
    let d : ℕ = weighted_deviation_of count weights total squares in
    let bounds : 1 < count → (d * d * m ≤ x) × (x < (d + 1) * (d + 1) * m) =
    λ (many : 1 < count). rw (several_deviation count weights total squares many)
    (let positive : 0 < m = divisor-positive count weights many weighed in
    ((le-div_iff_mul-le positive).0 (root-is (x / m)).at_most, (div-lt_iff_lt-mul positive).0 (root-is (x / m)).next_above)) in
    record {
      single = λ few. single_deviation count weights total squares few;
      at_most = λ many. (bounds many).0;
      next_above = λ many. (bounds many).1;
    }

-- with equal weights the mean is that without weights
pub equal_weights_mean : (count weight total : ℕ) → 1 ≤ weight → mean_of (weight * count) (weight * total) ≡ mean_of count total
equal_weights_mean count weight total weighed =
    let above : 2 * (weight * total) + weight * count ≡ weight * (2 * total + count) = omega arith in
    let below : 2 * (weight * count) ≡ weight * (2 * count) = omega arith in
    rw (above, below) (mul-div-mul_left (2 * total + count) (2 * count) weighed)

-- the spread of equal weights
equal_spread : (count weight total squares : ℕ) →
    count * (weight * count * (weight * squares) - weight * total * (weight * total))
    ≡ weight * weight * count * (count * squares - total * total)
equal_spread count weight total squares =
    let first : weight * count * (weight * squares) ≡ weight * weight * (count * squares) = omega arith in
    let second : weight * total * (weight * total) ≡ weight * weight * (total * total) = omega arith in
    let both : weight * count * (weight * squares) - weight * total * (weight * total) ≡ weight * weight * (count * squares - total * total) =
    rw (first, second) (sym (mul-sub (weight * weight) (count * squares) (total * total))) in
    rw both (omega arith)

-- with equal weights the variance is that without weights
equal_weights_variance : (count weight total squares : ℕ) → 1 < count → 1 ≤ weight →
    weighted_variance_of count (weight * count) (weight * total) (weight * squares)
    ≡ (count * squares - total * total) / (count * (count - 1))
equal_weights_variance count weight total squares many weighed =
    let divisor : weight * count * (weight * count) * (count - 1) ≡ weight * weight * count * (count * (count - 1)) = omega arith in
    let square : 1 ≤ weight * weight = mul-le 1 1 weight weight weighed weighed in
    let positive : 0 < weight * weight * count = mul-le 1 1 (weight * weight) count square (omega arith) in
    rw (equal_spread count weight total squares, divisor)
    (mul-div-mul_left (count * squares - total * total) (count * (count - 1)) positive)

-- the deviation of several amounts without weights
deviation_of_several : (count total squares : ℕ) → 1 < count →
    deviation_of count total squares ≡ root ((count * squares - total * total) / (count * (count - 1)))
deviation_of_several count total squares many = grind (arith, nat_tests)

-- the deviation of a single amount without weights
deviation_of_single : (count total squares : ℕ) → count ≤ 1 → deviation_of count total squares ≡ 0
deviation_of_single count total squares few = grind (arith, nat_tests)

-- with equal weights the deviation is that without weights
pub equal_weights_deviation : (count weight total squares : ℕ) → 1 ≤ weight →
    weighted_deviation_of count (weight * count) (weight * total) (weight * squares) ≡ deviation_of count total squares
equal_weights_deviation count weight total squares weighed =
    ⊎_elim
    (λ (many : 1 < count).
    several_deviation count (weight * count) (weight * total) (weight * squares) many
    ∙ ap root (equal_weights_variance count weight total squares many weighed)
    ∙ sym (deviation_of_several count total squares many))
    (λ (few : count ≤ 1).
    single_deviation count (weight * count) (weight * total) (weight * squares) few
    ∙ sym (deviation_of_single count total squares few))
    (cases_lt 1 count)

-- twice a product is at most the two squares, each weighed alike
weighed_product : (w x y : ℕ) → 2 * (y * (w * x)) ≤ w * (x * x) + w * (y * y)
weighed_product w x y =
    let turned : 2 * (y * (w * x)) ≡ w * (2 * (x * y)) = omega arith in
    let both : w * (x * x) + w * (y * y) ≡ w * (x * x + y * y) = omega arith in
    rw (turned, both) (mul-le w (2 * (x * y)) w (x * x + y * y) (omega arith) (twice_product x y))

-- the products of y with some weighed amounts are at most the weighed squares
weighed_cross-le : {A : Type 0} (weight amount : A → ℕ) (y : ℕ) (xs : List A) →
    2 * (y * sum_by (λ x. weight x * amount x) xs)
    ≤ sum_by (λ x. weight x * (amount x * amount x)) xs + sum_by weight xs * (y * y)
weighed_cross-le weight amount y [] = omega arith
weighed_cross-le weight amount y (x ∷ xs) =
    rw (sum_by-cons (λ x. weight x * amount x) x xs, sum_by-cons (λ x. weight x * (amount x * amount x)) x xs, sum_by-cons weight x xs)
    (simp (mul-add, add-mul) (omega (arith, weighed_cross-le weight amount y xs, weighed_product (weight x) (amount x) y)))

-- one more weighed amount, over plain numbers
weighed_step : (w x total weights squares : ℕ) → total * total ≤ weights * squares →
    2 * (x * total) ≤ squares + weights * (x * x) →
    (w * x + total) * (w * x + total) ≤ (w + weights) * (w * (x * x) + squares)
weighed_step w x total weights squares rest cross =
    let left : (w * x + total) * (w * x + total) ≡ w * w * (x * x) + w * (2 * (x * total)) + total * total = omega arith in
    let right : (w + weights) * (w * (x * x) + squares) ≡ w * w * (x * x) + w * (squares + weights * (x * x)) + weights * squares = omega arith in
    rw (left, right) (omega (arith, mul-le w (2 * (x * total)) w (squares + weights * (x * x)) (omega arith) cross, rest))

-- the square of a weighed sum is at most the sum of the weights times the sum of the weighed squares
pub weighted_squares-sum-le : {A : Type 0} (weight amount : A → ℕ) (xs : List A) →
    sum_by (λ x. weight x * amount x) xs * sum_by (λ x. weight x * amount x) xs
    ≤ sum_by weight xs * sum_by (λ x. weight x * (amount x * amount x)) xs
weighted_squares-sum-le weight amount [] = omega arith
weighted_squares-sum-le weight amount (x ∷ xs) =
    rw (sum_by-cons (λ x. weight x * amount x) x xs, sum_by-cons (λ x. weight x * (amount x * amount x)) x xs, sum_by-cons weight x xs)
    (weighed_step (weight x) (amount x) (sum_by (λ x. weight x * amount x) xs) (sum_by weight xs) (sum_by (λ x. weight x * (amount x * amount x)) xs)
    (weighted_squares-sum-le weight amount xs) (weighed_cross-le weight amount (amount x) xs))

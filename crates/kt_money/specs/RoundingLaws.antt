-- Laws of roots and deviations: each of them exists and is one, and amounts leave their deviation room.
-- The rules: docs/CALCULATION.md, "Rounding", "Mean and deviation".
use Rattle.std.specs.Prelude.{ℕ, zero, suc, ◌+◌, ◌-◌, ◌*◌, ◌/◌, ◌<◌, ◌≤◌, ◌≡◌, List, [], ◌∷◌, length, sum, map, nat_le, if◌then◌else◌}
use Rattle.std.proofs.Common.{arith, ⊎_elim}
use Rattle.std.proofs.lemmas.Bool.{cases_lt}
use Rattle.std.proofs.lemmas.Bool.Decides.{nat_tests}
use Rattle.std.proofs.lemmas.List.Sums.{sum_by-cons}
use Rattle.std.proofs.lemmas.Nat.{mul-le}
use Rattle.std.proofs.Math.Nat.{le-div_iff_mul-le, div-lt_iff_lt-mul, mul-add, add-mul}
use Rattle.kt_money.specs.Rounding.{root, IsRoot, IsDeviation, deviation_of}

-- one number further the root stays or grows by one
root_step : (x d : ℕ) → IsRoot x d → IsRoot (suc x) (if nat_le ((d + 1) * (d + 1)) (suc x) then d + 1 else d)
root_step x d here = grind (arith, nat_tests)

-- the root by recursion is the whole square root
pub root-is : (x : ℕ) → IsRoot x (root x)
unfolding root
root-is zero = record { at_most = omega arith; next_above = omega arith }
root-is (suc x) = root_step x (root x) (root-is x)

-- no whole square root is above another
root_below : (x d e : ℕ) → IsRoot x d → IsRoot x e → e ≤ d
root_below x d e first second =
    ⊎_elim (λ (less : d < e). absurd (omega (arith, mul-le (d + 1) (d + 1) e e (omega arith) (omega arith))))
    (λ (h : e ≤ d). h)
    (cases_lt d e)

-- a number has one whole square root
pub root-unique : (x d e : ℕ) → IsRoot x d → IsRoot x e → d ≡ e
root-unique x d e first second = omega (arith, root_below x d e first second, root_below x e d second first)

-- what is a root is the one by recursion
pub root-from_is : (x d : ℕ) → IsRoot x d → d ≡ root x
root-from_is x d is_root = root-unique x d (root x) is_root (root-is x)

-- the deviation of a single amount
deviation_single : (n total squares : ℕ) → n ≤ 1 → deviation_of n total squares ≡ 0
deviation_single n total squares few = grind (arith, nat_tests)

-- the deviation of several amounts
deviation_several : (n total squares : ℕ) → 1 < n → deviation_of n total squares ≡ root ((n * squares - total * total) / (n * (n - 1)))
deviation_several n total squares many = grind (arith, nat_tests)

-- several amounts have pairs
pairs_positive : (n : ℕ) → 1 < n → 0 < n * (n - 1)
pairs_positive n many = omega (arith, mul-le 1 1 n (n - 1) (omega arith) (omega arith))

-- the defining bounds give the root of a quotient
root_of_quotient : (x m d : ℕ) → 0 < m → d * d * m ≤ x → x < (d + 1) * (d + 1) * m → IsRoot (x / m) d
root_of_quotient x m d positive low high = record {
  at_most = (le-div_iff_mul-le positive).1 low;
  next_above = (div-lt_iff_lt-mul positive).1 high;
}

-- a root of a quotient meets the defining bounds
quotient_of_root : (x m d : ℕ) → 0 < m → IsRoot (x / m) d → (d * d * m ≤ x) × (x < (d + 1) * (d + 1) * m)
quotient_of_root x m d positive is_root =
    ((le-div_iff_mul-le positive).0 is_root.at_most, (div-lt_iff_lt-mul positive).0 is_root.next_above)

-- the deviation meets its defining bounds
pub deviation_of-is : (n total squares : ℕ) → IsDeviation n total squares (deviation_of n total squares)
deviation_of-is n total squares =
    let x : ℕ = n * squares - total * total in
    let pairs : ℕ = n * (n - 1) in
    let d : ℕ = deviation_of n total squares in
    let bounds : 1 < n → (d * d * pairs ≤ x) × (x < (d + 1) * (d + 1) * pairs) =
    λ (many : 1 < n). rw (deviation_several n total squares many)
    (quotient_of_root x pairs (root (x / pairs)) (pairs_positive n many) (root-is (x / pairs))) in
    record {
      single = λ few. deviation_single n total squares few;
      at_most = λ many. (bounds many).0;
      next_above = λ many. (bounds many).1;
    }

-- amounts have one deviation
pub deviation-unique : (n total squares d e : ℕ) → IsDeviation n total squares d → IsDeviation n total squares e → d ≡ e
deviation-unique n total squares d e first second =
    ⊎_elim
    (λ (many : 1 < n). let positive : 0 < n * (n - 1) = pairs_positive n many in
    root-unique ((n * squares - total * total) / (n * (n - 1))) d e
    (root_of_quotient _ _ _ positive (first.at_most many) (first.next_above many))
    (root_of_quotient _ _ _ positive (second.at_most many) (second.next_above many)))
    (λ (few : n ≤ 1). omega (arith, first.single few, second.single few))
    (cases_lt 1 n)

-- the sum of a list with one more amount in front
sum-cons : (x : ℕ) (xs : List ℕ) → sum (x ∷ xs) ≡ x + sum xs
sum-cons x xs = sum_by-cons (λ x. x) x xs

-- twice a product is at most the two squares, where the second is the greater
twice_product_up : (x k : ℕ) → 2 * (x * (x + k)) ≤ x * x + (x + k) * (x + k)
twice_product_up x k = simp (mul-add, add-mul) (grind arith)

-- twice a product is at most the two squares
pub twice_product : (x y : ℕ) → 2 * (x * y) ≤ x * x + y * y
twice_product x y =
    ⊎_elim
    (λ (below : x < y). let e : x + (y - x) ≡ y = omega arith in rw e at (twice_product_up x (y - x)))
    (λ (above : y ≤ x). let e : y + (x - y) ≡ x = omega arith in
    let turned : 2 * (y * x) ≤ y * y + x * x = rw e at (twice_product_up y (x - y)) in omega arith)
    (cases_lt x y)

-- the products of x with some amounts are at most the squares
cross-le : (x : ℕ) (ys : List ℕ) → 2 * (x * sum ys) ≤ length ys * (x * x) + sum (map (λ y. y * y) ys)
cross-le x [] = omega arith
cross-le x (y ∷ ys) =
    rw (sum-cons y ys, sum-cons (y * y) (map (λ y. y * y) ys))
    (simp mul-add (omega (arith, cross-le x ys, twice_product x y)))

-- the square of a sum is at most the count times the sum of the squares
pub squares-sum-le : (xs : List ℕ) → sum xs * sum xs ≤ length xs * sum (map (λ x. x * x) xs)
squares-sum-le [] = omega arith
squares-sum-le (x ∷ xs) =
    rw (sum-cons x xs, sum-cons (x * x) (map (λ x. x * x) xs))
    (simp (mul-add, add-mul) (omega (arith, cross-le x xs, squares-sum-le xs)))

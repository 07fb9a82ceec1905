-- Laws of sharing out: the shares add to the total, and where it is not above the weights, no share is above its weight.
-- The rule: docs/CALCULATION.md, "Share-out".
use Rattle.std.specs.Prelude.{◌≡◌, ℕ, zero, suc, ◌+◌, ◌-◌, ◌*◌, ◌/◌, ◌<◌, ◌≤◌, List, [], ◌∷◌}
use Rattle.std.specs.List.{sum}
use Rattle.std.proofs.Common.{arith, sym, ap, ◌∙◌}
use Rattle.std.proofs.lemmas.List.Sums.{sum_by-cons}
use Rattle.std.proofs.lemmas.Nat.{mul-le}
use Rattle.std.proofs.Math.Nat.{div-zero, zero-div, div-mul-le_self, le-div_iff_mul-le, add-mul-div_right, mul-div_cancel, mul-add}
use Rattle.kt_money.specs.Sharing.{share_to, share_of, shares_after, share_out}

-- a part of more weights is no smaller
pub share_to-le : (total weights some more : ℕ) → some ≤ more → share_to total weights some ≤ share_to total weights more
share_to-le total zero some more less = rw (div-zero (total * some)) (omega arith)
share_to-le total (suc n) some more less =
    let q = total * some / suc n in
    let fits : q * suc n ≤ total * more = omega (arith, div-mul-le_self (total * some) (suc n), mul-le total some total more (omega arith) less) in
    let both = le-div_iff_mul-le {k = suc n} {x = q} {y = total * more} (omega arith) in both.1 fits

-- where the total is not above the weights in all, no share is above its weight
pub share_of-le : (total weights given weight : ℕ) → total ≤ weights → share_of total weights given weight ≤ weight
share_of-le total zero given weight few = omega (arith, div-zero (total * (given + weight)))
share_of-le total (suc n) given weight few =
    let more : total * (given + weight) ≤ total * given + weight * suc n = omega (arith, mul-add total given weight, mul-le total weight (suc n) weight few (omega arith), mul-swap (suc n) weight) in
    let up : share_to total (suc n) (given + weight) ≤ (total * given + weight * suc n) / suc n = part-le (total * (given + weight)) (total * given + weight * suc n) n more in
    omega (arith, up, add-mul-div_right (total * given) weight {z = suc n} (omega arith))
  where
    mul-swap : (a b : ℕ) → a * b ≡ b * a
    mul-swap a b = omega arith

    part-le : (a b n : ℕ) → a ≤ b → a / suc n ≤ b / suc n
    part-le a b n less = let both = le-div_iff_mul-le {k = suc n} {x = a / suc n} {y = b} (omega arith) in both.1 (omega (arith, div-mul-le_self a (suc n), less))

-- ---- numbers at the edges

plus-none : (n : ℕ) → n + 0 ≡ n
plus-none n = omega arith

none-plus : (n : ℕ) → 0 + n ≡ n
none-plus n = omega arith

times-none : (n : ℕ) → n * 0 ≡ 0
times-none n = omega arith

none-times : (n : ℕ) → 0 * n ≡ 0
none-times n = omega arith

sub-same : (n : ℕ) → n - n ≡ 0
sub-same n = omega arith

regroup : (a b c : ℕ) → a + b + c ≡ a + (b + c)
regroup a b c = omega arith

-- ---- the laws

-- a weight of 0 has a share of 0
pub share_of-zero : (total weights given : ℕ) → share_of total weights given 0 ≡ 0
share_of-zero total weights given = rw (plus-none given) (sub-same (share_to total weights given))

-- the shares of further weights bring what was paid to what all of them are due
sum-shares_after : (total weights given : ℕ) (further : List ℕ) → sum (shares_after total weights given further) + share_to total weights given ≡ share_to total weights (given + sum further)
sum-shares_after total weights given [] = none-plus (share_to total weights given) ∙ ap (share_to total weights) (sym (plus-none given))
sum-shares_after total weights given (weight ∷ rest) =
    omega (arith, sum_by-cons (λ (x : ℕ). x) (share_of total weights given weight) (shares_after total weights (given + weight) rest), sum-shares_after total weights (given + weight) rest, share_to-le total weights given (given + weight) (omega arith), ap (share_to total weights) (regroup given weight (sum rest)), ap (share_to total weights) (ap (λ s. given + s) (sum_by-cons (λ (x : ℕ). x) weight rest)))

-- no weights are due nothing
nothing : (total weights : ℕ) → share_to total weights 0 ≡ 0
nothing total weights = ap (λ n. n / weights) (times-none total) ∙ zero-div weights

-- all weights together are due the total
whole : (total weights : ℕ) → (0 < total → 0 < weights) → share_to total weights weights ≡ total
whole zero weights some = ap (λ n. n / weights) (none-times weights) ∙ zero-div weights
whole (suc n) weights some = mul-div_cancel (suc n) {n = weights} (some (omega arith))

-- the shares of all weights add to the total
pub share_out-adds : (total : ℕ) (weights : List ℕ) → (0 < total → 0 < sum weights) → sum (share_out total weights) ≡ total
share_out-adds total weights some =
    omega (arith, sum-shares_after total (sum weights) 0 weights, ap (share_to total (sum weights)) (none-plus (sum weights)), whole total (sum weights) some, nothing total (sum weights))

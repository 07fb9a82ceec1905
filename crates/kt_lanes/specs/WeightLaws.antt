-- Laws of weights in whose place 1 stands where there are none.
-- The rule: docs/CALCULATION.md, "Share-out".
use Rattle.std.specs.Prelude.{◌≡◌, ℕ, zero, suc, ◌*◌, ◌/◌, ◌<◌, ◌≤◌, ◌^◌}
use Rattle.std.proofs.Common.{refl, sym, ap, ◌∙◌, arith}
use Rattle.std.proofs.Math.Nat.{div-zero, zero-div}
use Rattle.kt_money.specs.Sharing.{share_to}
use Rattle.kt_lanes.specs.Shares.{weight_or_one}

-- they are not 0
pub weight-some : (n : ℕ) → 0 < weight_or_one n
weight-some zero = omega arith
weight-some (suc n) = omega arith

-- they are not less
pub weight-most : (n : ℕ) → n ≤ weight_or_one n
weight-most zero = omega arith
weight-most (suc n) = omega arith

-- nor have they more bits
pub weight-narrow : (n : ℕ) → n < 2 ^ 32 → weight_or_one n < 2 ^ 32
weight-narrow zero few = omega arith
weight-narrow (suc n) few = few

-- nor are they too many
pub weight-few : (n : ℕ) → n ≤ 10 ^ 16 → weight_or_one n ≤ 10 ^ 16
weight-few zero few = omega arith
weight-few (suc n) few = few

-- of no weights nothing is shared out, so that 1 in their place changes no part
pub weight-same : (total weights upto : ℕ) → total ≤ weights → share_to total (weight_or_one weights) upto ≡ share_to total weights upto
weight-same total (suc n) upto most = refl
weight-same total zero upto most =
    let none : total * upto ≡ 0 = ap (λ n. n * upto) (omega (arith, most)) ∙ no-times upto in
    ap (λ n. n / 1) none ∙ (zero-div 1 ∙ sym (div-zero (total * upto)))
  where
    no-times : (n : ℕ) → 0 * n ≡ 0
    no-times n = omega arith

-- A product of the weights that is at or below that of the total by less than the weights: were it above, the difference would wrap.
use Rattle.std.proofs.Common.{◌≡◌, ℕ, ◌<◌, ◌≤◌, ◌+◌, ◌*◌, ◌^◌, ◌%◌, ◌-◌, arith, bit_or, sym}
use Rattle.std.proofs.Math.Nat.{div-eq_of_lt-le}
use Rattle.std.proofs.lemmas.Nat.{le_or_l, le_or_r, mul-le}
use Rattle.kt_money.specs.Sharing.{share_to}
use Rattle.kt_lanes.proofs.tested.wrong_by.Goals as goal

-- what is left is less than the weights, where the greatest that may be left is not below it
less-left : (left weights : ℕ) → left < 2 ^ 32 → 0 < weights → weights < 2 ^ 32 → (weights - 1 + (18446744073709551616 - left)) % 18446744073709551616 < 2 ^ 32 → left < weights
less-left left weights few some narrow fits = omega (arith, few, some, narrow, fits)

-- what is less than the weights did not wrap
not-below : (product whole part weights : ℕ) → whole ≡ part * weights → part < 2 ^ 32 → weights < 2 ^ 32 → (product + (18446744073709551616 - whole)) % 18446744073709551616 < weights → whole ≤ product
not-below product whole part weights whole_is few narrow less =
    let most : part * weights ≤ 4294967295 * 4294967295 = mul-le part weights 4294967295 4294967295 (omega (arith, few)) (omega (arith, narrow)) in
    omega (arith, whole_is, most, narrow, less)

part-is : (total weights upto part product whole : ℕ) → product < 2 ^ 64 → product ≡ total * upto → whole ≡ part * weights → part < 2 ^ 32 → weights < 2 ^ 32 → (product + (18446744073709551616 - whole)) % 18446744073709551616 < weights → part ≡ share_to total weights upto
part-is total weights upto part product whole fits product_is whole_is few narrow less =
    let above = not-below product whole part weights whole_is few narrow less in
    let end : product < whole + weights = omega (arith, less, above, fits) in
    sym (div-eq_of_lt-le weights {m = total * upto} (omega (arith, above, product_is, whole_is)) (omega (arith, end, product_is, whole_is)))

pub returns : goal.returns
returns c = record {
  value = λ narrow fits.
      let weights = c.args.weights in
      let part = c.args.part in
      let product = c.narrow_product-product.result in
      let whole = c.narrow_product-whole.result in
      let left = (product + (18446744073709551616 - whole)) % 18446744073709551616 in
      let below = (weights - 1 + (18446744073709551616 - left)) % 18446744073709551616 in
      let front : bit_or part left < 2 ^ 32 = omega (arith, fits, le_or_l (bit_or part left) below) in
      let few : part < 2 ^ 32 = omega (arith, front, le_or_l part left) in
      let left_few : left < 2 ^ 32 = omega (arith, front, le_or_r part left) in
      let below_few : below < 2 ^ 32 = omega (arith, fits, le_or_r (bit_or part left) below) in
      part-is c.args.total weights c.args.upto part product whole c.narrow_product-product.type_inv (c.narrow_product-product.ensures.value (omega (arith, narrow, c.requires.most)) (omega (arith, narrow, c.requires.within))) (c.narrow_product-whole.ensures.value few narrow) few narrow
      (less-left left weights left_few c.requires.some narrow below_few);
}

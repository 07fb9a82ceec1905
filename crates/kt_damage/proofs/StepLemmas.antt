-- Losses by lines of damages in units of 2^-127: what is rounded up adds too little to change a loss.
use Rattle.std.proofs.Common.{◌≡◌, ◌⊎◌, inl, inr, ℕ, zero, suc, ◌+◌, ◌-◌, ◌*◌, ◌/◌, ◌%◌, ◌^◌, ◌<◌, ◌≤◌, List, length, get_or, max, refl, sym, ap, arith, ◌∙◌}
use Rattle.std.proofs.lemmas.Nat.{mul-le}
use Rattle.std.proofs.lemmas.Bool.{cases_lt}
use Rattle.std.proofs.Math.Nat.{add-mul, mul-add, mul_assoc, add-mul-div_right, div-div-eq-div-mul, div-eq_of_lt-le, div-lt_iff_lt-mul, div-mul-le_self, lt-div-mul-add, le_of_mul-le-mul_right}
use Rattle.kt_money.specs.Rounding.{half_up, ppm_part}
use Rattle.kt_rec.specs.declared.hazard.DamageBin.{DamageBin}
use Rattle.kt_stream.specs.Bins.{AreBins}
use Rattle.kt_stream.specs.declared.entry.Bin.{Bin}
use Rattle.kt_damage.specs.declared.moments.DamageMoments.{DamageMoments}
use Rattle.kt_damage.specs.declared.steps.Step.{Step}
use Rattle.kt_damage.specs.SampledLoss.{loss_in_bin, sampled_loss}
use Rattle.kt_damage.specs.DamageMoments.{AreMoments}
use Rattle.kt_damage.specs.ItemMoments.{means_behind, damage_deviation}
use Rattle.kt_damage.specs.Sampled.{CanSample, IsLine, end_before, damage_before}
use Rattle.kt_damage.specs.Steps.{IsStep, IsBinStep}
use Rattle.kt_damage.proofs.SampleLemmas.{bins_rise, bin_within, damage_within, loss_behind-at, loss_behind-past}

-- what a quotient is
pub quotient_at : (a b q : ℕ) → 0 < b → q ≡ a / b → (q * b ≤ a) × (a < q * b + b)
quotient_at a b q some is = rw is (div-mul-le_self a b, lt-div-mul-add some)

-- a product that is less has a factor that is less
pub less_by : (a b n : ℕ) → a * n < b * n → a < b
less_by a b n less = by (cases_lt a b)
  where
    by : (a < b) ⊎ (b ≤ a) → a < b
    by (inl is) = is
    by (inr above) = absurd (omega (arith, less, mul-le b n a n above (omega arith)))

-- products in units of 2^-127
in_units : (a b c : ℕ) → a * (b * 2 ^ 127 + c) ≡ a * b * 2 ^ 127 + a * c
in_units a b c = simp mul-add (grind arith)

by_unit : (q unit : ℕ) → q * 2 ^ 127 * unit ≡ q * unit * 2 ^ 127
by_unit q unit = grind arith

next_by_unit : (q unit : ℕ) → (q + 1) * 2 ^ 127 * unit ≡ q * unit * 2 ^ 127 + unit * 2 ^ 127
next_by_unit q unit = simp add-mul (grind arith)

-- the damage at a number behind the first
rate_over : (rate base over : ℕ) → rate * (base + 1000000 * over) ≡ rate * base + 1000000 * rate * over
rate_over rate base over = simp mul-add (grind arith)

-- a part of at most one and a half has 128 bits
pub scaled_fits : (part whole high rest low : ℕ) → 0 < whole → 2 * part ≤ 3 * whole → high ≡ part * 18446744073709551616 / whole → rest ≡ (part * 18446744073709551616 - high * whole) * 9223372036854775808 + (whole - 1) → low ≡ rest / whole → high * 9223372036854775808 + low < 2 ^ 128
scaled_fits part whole high rest low some within high_is rest_is low_is =
    let first = quotient_at _ whole high some high_is in
    let second = quotient_at rest whole low some low_is in
    let few : high < 27670116110564327425 = less_by high 27670116110564327425 whole (omega (arith, first)) in
    let small : low < 9223372036854775809 = less_by low 9223372036854775809 whole (omega (arith, first, second, rest_is)) in
    omega arith

-- a damage that is rounded up by little gives the same loss
pub rounded_up : (tiv damage unit fraction extra : ℕ) → 0 < unit → fraction * unit ≡ damage * 2 ^ 127 + extra → 2 * (tiv * extra) < 2 ^ 127 → half_up (tiv * damage) unit ≡ (tiv * fraction + 2 ^ 126) / 2 ^ 127
rounded_up tiv damage unit fraction extra some is little =
    let q : ℕ = half_up (tiv * damage) unit in
    let at = quotient_at (2 * (tiv * damage) + unit) (2 * unit) q (omega arith) refl in
    let whole : tiv * fraction * unit ≡ tiv * damage * 2 ^ 127 + tiv * extra = mul_assoc tiv fraction unit ∙ (ap (λ x. tiv * x) is ∙ in_units tiv damage extra) in
    let twice : q * (2 * unit) ≡ 2 * (q * unit) = grind arith in
    let low : q * 2 ^ 127 ≤ tiv * fraction + 2 ^ 126 = le_of_mul-le-mul_right {k = unit} (omega (arith, at, whole, twice, by_unit q unit, add-mul (tiv * fraction) (2 ^ 126) unit)) some in
    let high : tiv * fraction + 2 ^ 126 < (q + 1) * 2 ^ 127 = less_by _ _ unit (omega (arith, at, whole, twice, next_by_unit q unit, add-mul (tiv * fraction) (2 ^ 126) unit)) in
    sym (div-eq_of_lt-le (2 ^ 127) low high)

-- the loss at a number of a step, by the damage at its first and its rise
pub line_is : (tiv base slope unit least rise over : ℕ) → tiv ≤ 10 ^ 14 → 0 < unit → unit ≤ 1002001000000000000 → base * 2 ^ 127 ≤ least * unit → least * unit < base * 2 ^ 127 + unit → slope * over * 2 ^ 127 ≤ rise * over * unit → rise * over * unit ≤ slope * over * 2 ^ 127 + 839999 * unit → half_up (tiv * (base + slope * over)) unit ≡ (tiv * (least + rise * over) + 2 ^ 126) / 2 ^ 127
line_is tiv base slope unit least rise over value some few low high from to =
    let extra : ℕ = (least * unit - base * 2 ^ 127) + (rise * over * unit - slope * over * 2 ^ 127) in
    let is : (least + rise * over) * unit ≡ (base + slope * over) * 2 ^ 127 + extra = omega (arith, add-mul least (rise * over) unit, add-mul base (slope * over) (2 ^ 127), low, from) in
    let little : extra ≤ 841680840000000000000000 = omega (arith, high, to, few) in
    rounded_up tiv (base + slope * over) unit (least + rise * over) extra some is (omega (arith, mul-le tiv extra 100000000000000 841680840000000000000000 value little))

-- a rise that is rounded up is not short at any number
pub rise_least : (slope rise over unit : ℕ) → slope * 2 ^ 127 ≤ rise * unit → slope * over * 2 ^ 127 ≤ rise * over * unit
rise_least slope rise over unit least =
    let left : slope * over * 2 ^ 127 ≡ slope * 2 ^ 127 * over = grind arith in
    let right : rise * over * unit ≡ rise * unit * over = grind arith in
    omega (arith, left, right, mul-le (slope * 2 ^ 127) over (rise * unit) over least (omega arith))

-- and too much by little
pub rise_most : (slope rise over unit : ℕ) → rise * unit < slope * 2 ^ 127 + unit → over ≤ 839999 → rise * over * unit ≤ slope * over * 2 ^ 127 + 839999 * unit
rise_most slope rise over unit most few =
    let left : slope * over * 2 ^ 127 ≡ slope * 2 ^ 127 * over = grind arith in
    let right : rise * over * unit ≡ rise * unit * over = grind arith in
    omega (arith, left, right, add-mul (slope * 2 ^ 127) unit over, mul-le (rise * unit) over (slope * 2 ^ 127 + unit) over (omega arith) (omega arith), mul-le unit over unit 839999 (omega arith) few)

-- the loss by a damage that is one at all numbers
pub flat_is : (tiv high least over : ℕ) → tiv ≤ 10 ^ 14 → high * 2 ^ 127 ≤ least * 1000000 → least * 1000000 < high * 2 ^ 127 + 1000000 → ppm_part tiv high ≡ (tiv * (least + 0 * over) + 2 ^ 126) / 2 ^ 127
flat_is tiv high least over value low most =
    let extra : ℕ = least * 1000000 - high * 2 ^ 127 in
    let same : least ≡ least + 0 * over = omega arith in
    rounded_up tiv high 1000000 least extra (omega arith) (omega (arith, low)) (omega (arith, mul-le tiv extra 100000000000000 1000000 value (omega (arith, most)))) ∙ ap (λ least. (tiv * least + 2 ^ 126) / 2 ^ 127) same

-- a product with a number of two words, word by word
pub words_of : (tiv damage half : ℕ) → (tiv * (damage / 18446744073709551616) + tiv * (damage % 18446744073709551616) / 18446744073709551616 + half) / 9223372036854775808 ≡ (tiv * damage + half * 18446744073709551616) / 2 ^ 127
words_of tiv damage half =
    let high : ℕ = damage / 18446744073709551616 in
    let low : ℕ = damage % 18446744073709551616 in
    let parts : damage ≡ high * 18446744073709551616 + low = omega arith in
    let product : tiv * damage ≡ tiv * low + tiv * high * 18446744073709551616 = ap (λ n. tiv * n) parts ∙ spread tiv high low in
    let sum : tiv * damage + half * 18446744073709551616 ≡ tiv * low + (tiv * high + half) * 18446744073709551616 = omega (arith, product, add-mul (tiv * high) half 18446744073709551616) in
    let front : (tiv * damage + half * 18446744073709551616) / 18446744073709551616 ≡ tiv * low / 18446744073709551616 + (tiv * high + half) = ap (λ n. n / 18446744073709551616) sum ∙ add-mul-div_right (tiv * low) (tiv * high + half) {z = 18446744073709551616} (omega arith) in
    ap (λ n. n / 9223372036854775808) (omega (arith, front)) ∙ div-div-eq-div-mul (tiv * damage + half * 18446744073709551616) 18446744073709551616 9223372036854775808
  where
    spread : (a b c : ℕ) → a * (b * 18446744073709551616 + c) ≡ a * c + a * b * 18446744073709551616
    spread a b c = simp mul-add (grind arith)

-- a part that is rounded up by little is the same, rounded down
pub rounded_down : (tiv damage unit fraction extra : ℕ) → 0 < unit → fraction * unit ≡ damage * 2 ^ 127 + extra → tiv * extra < 2 ^ 127 → tiv * fraction / 2 ^ 127 ≡ tiv * damage / unit
rounded_down tiv damage unit fraction extra some is little =
    let q : ℕ = tiv * damage / unit in
    let at = quotient_at (tiv * damage) unit q some refl in
    let whole : tiv * fraction * unit ≡ tiv * damage * 2 ^ 127 + tiv * extra = mul_assoc tiv fraction unit ∙ (ap (λ x. tiv * x) is ∙ in_units tiv damage extra) in
    let low : q * 2 ^ 127 ≤ tiv * fraction = le_of_mul-le-mul_right {k = unit} (omega (arith, at, whole, by_unit q unit)) some in
    let high : tiv * fraction < (q + 1) * 2 ^ 127 = less_by _ _ unit (omega (arith, at, whole, next_by_unit q unit)) in
    div-eq_of_lt-le (2 ^ 127) low high

-- the moments of a damage in units of 2^-127, rounded up
pub moments_are : (bins : List Bin) (mean deviation : ℕ) (moments : DamageMoments) → mean ≡ means_behind 0 bins → deviation ≡ damage_deviation bins → deviation ≤ 1002001000000000000 → mean * 2 ^ 127 ≤ moments.mean * 1000000000000000000 → moments.mean * 1000000000000000000 < mean * 2 ^ 127 + 1000000000000000000 → deviation * 2 ^ 127 ≤ moments.deviation * 1000000000000000000 → moments.deviation * 1000000000000000000 < deviation * 2 ^ 127 + 1000000000000000000 → AreMoments bins moments
moments_are bins mean deviation moments mean_is deviation_is few mean_least mean_most deviation_least deviation_most = record {
  mean_is = λ tiv value.
      let extra : ℕ = moments.mean * 1000000000000000000 - mean * 2 ^ 127 in
      sym (rounded_up tiv mean 1000000000000000000 moments.mean extra (omega arith) (omega (arith, mean_least)) (omega (arith, mul-le tiv extra 100000000000000 1000000000000000000 value (omega (arith, mean_most))))) ∙ ap (λ mean. half_up (tiv * mean) 1000000000000000000) mean_is;
  deviation_is = λ tiv value.
      let extra : ℕ = moments.deviation * 1000000000000000000 - deviation * 2 ^ 127 in
      rounded_down tiv deviation 1000000000000000000 moments.deviation extra (omega arith) (omega (arith, deviation_least)) (omega (arith, mul-le tiv extra 100000000000000 1000000000000000000 value (omega (arith, deviation_most)))) ∙ ap (λ deviation. tiv * deviation / 1000000000000000000) deviation_is;
  few = omega (arith, deviation_is, few);
}

-- a deviation of a loss is a little above the insured value at the most
pub deviation_few : (tiv deviation : ℕ) → tiv ≤ 10 ^ 14 → deviation ≤ 1002001000000000000 → tiv * deviation / 10 ^ 18 ≤ 100200100000000
deviation_few tiv deviation value few =
    let product = mul-le tiv deviation 100000000000000 1002001000000000000 value few in
    let up = (div-lt_iff_lt-mul {k = 10 ^ 18} {x = tiv * deviation} {y = 100200100000001} (omega arith)).1 in
    let below = up (omega arith) in
    omega arith

-- no damage of a step passes the whole by so much that it has more than 128 bits
pub line_fits : (base slope unit least rise span : ℕ) → 0 < unit → base + slope * span ≤ unit → least * unit < base * 2 ^ 127 + unit → rise * span * unit ≤ slope * span * 2 ^ 127 + 839999 * unit → least + rise * span < 2 ^ 128
line_fits base slope unit least rise span some within high to =
    less_by (least + rise * span) (2 ^ 128) unit (omega (arith, add-mul least (rise * span) unit, within, high, to))

-- the loss in a bin, by the damage at a number and those behind it
pub bin_loss : (tiv low high before upto first over : ℕ) → before ≤ first * 1000000 → loss_in_bin tiv low high before upto ((first + over) * 1000000) ≡ half_up (tiv * (low * (upto - before) + (high - low) * (1000000 * first - before) + 1000000 * (high - low) * over)) (1000000 * (upto - before))
bin_loss tiv low high before upto first over from =
    let number : (first + over) * 1000000 - before ≡ (1000000 * first - before) + 1000000 * over = omega arith in
    let parts : (high - low) * ((first + over) * 1000000 - before) ≡ (high - low) * (1000000 * first - before) + 1000000 * (high - low) * over = ap (λ n. (high - low) * n) number ∙ rate_over (high - low) (1000000 * first - before) over in
    ap (λ damage. half_up (tiv * damage) (1000000 * (upto - before))) (omega (arith, parts))

-- the line of a bin is a step of it
pub bin_line : (low high before upto first most span least rise : ℕ) → IsLine low high before upto first most → span ≤ most → (low * (upto - before) + (high - low) * (1000000 * first - before)) * 2 ^ 127 ≤ least * (1000000 * (upto - before)) → least * (1000000 * (upto - before)) < (low * (upto - before) + (high - low) * (1000000 * first - before)) * 2 ^ 127 + 1000000 * (upto - before) → ((over : ℕ) → over ≤ span → 1000000 * (high - low) * over * 2 ^ 127 ≤ rise * over * (1000000 * (upto - before))) → ((over : ℕ) → over ≤ span → rise * over * (1000000 * (upto - before)) ≤ 1000000 * (high - low) * over * 2 ^ 127 + 839999 * (1000000 * (upto - before))) → IsBinStep low high before upto (record { first = first; span = span; least = least; rise = rise })
bin_line low high before upto first most span least rise is shorter from to up down =
    let width : ℕ = upto - before in
    let base : ℕ = low * width + (high - low) * (1000000 * first - before) in
    let slope : ℕ = 1000000 * (high - low) in
    let unit : ℕ = 1000000 * width in
    let wide = is.wide in
    let whole = is.whole in
    let some : 0 < unit = omega arith in
    let below : (first + span) * 1000000 ≤ upto = omega (arith, is.below, shorter) in
    let number : (first + span) * 1000000 - before ≡ (1000000 * first - before) + 1000000 * span = omega (arith, is.from) in
    let parts : (high - low) * ((first + span) * 1000000 - before) ≡ (high - low) * (1000000 * first - before) + slope * span = ap (λ n. (high - low) * n) number ∙ rate_over (high - low) (1000000 * first - before) span in
    let within = damage_within low high width ((first + span) * 1000000 - before) is.least is.most (omega (arith, below)) in
    record {
      is_step = record {
        numbers = omega (arith, below, whole);
        fits = line_fits base slope unit least rise span some (omega (arith, within, parts)) to (down span (omega arith));
        loss_is = λ tiv over value under. bin_loss tiv low high before upto first over is.from ∙ line_is tiv base slope unit least rise over value some (omega arith) from to (up over under) (down over under);
      };
      above = is.above;
      below = below;
      wide = wide;
    }

-- the bins before a place end at the latest where the last of them does
ends_before : (bins : List Bin) (k j : ℕ) (b : Bin) → AreBins 0 bins → k ≤ length bins → j < k → (get_or bins j b).prob_to ≤ end_before 0 bins k b
ends_before bins zero j b are within under = absurd (omega arith)
ends_before bins (suc k) j b are within under = bins_rise 0 bins are j k b (omega arith) (omega arith)

-- where the bin before a place ends, that at the place does not end before
pub end_at_most : (bins : List Bin) (k : ℕ) (b : Bin) → AreBins 0 bins → k < length bins → end_before 0 bins k b ≤ (get_or bins k b).prob_to
end_at_most bins zero b are below = omega arith
end_at_most bins (suc k) b are below = bins_rise 0 bins are k (suc k) b (omega arith) below

-- it ends at a probability
pub end_within : (bins : List Bin) (k : ℕ) (b : Bin) → AreBins 0 bins → k ≤ length bins → end_before 0 bins k b ≤ 1002001000000
end_within bins zero b are within = omega arith
end_within bins (suc k) b are within = bin_within 0 k bins b are (omega arith)

-- a step of a bin is one of the distribution
pub bin_is_step : (dictionary : List DamageBin) (bins : List Bin) (k : ℕ) (d : DamageBin) (b : Bin) (step : Step) → CanSample 0 dictionary bins → k < length bins → IsBinStep (get_or dictionary k d).bin_from (get_or dictionary k d).bin_to (end_before 0 bins k b) (get_or bins k b).prob_to step → IsStep (λ tiv number. sampled_loss tiv dictionary bins number) step
bin_is_step dictionary bins k d b step can below is = record {
  numbers = is.is_step.numbers;
  fits = is.is_step.fits;
  loss_is = λ tiv over value within.
      let number : ℕ = (step.first + over) * 1000000 in
      loss_behind-at tiv number (max number 1) 0 0 dictionary bins k d b refl (omega arith) can.few below
      (λ j under. omega (arith, ends_before bins k j b can.rising (omega arith) under, is.above)) (omega (arith, is.below, is.wide))
      ∙ is.is_step.loss_is tiv over value within;
}

-- and so is the step behind all bins
pub end_is_step : (dictionary : List DamageBin) (bins : List Bin) (d : DamageBin) (b : Bin) (step : Step) → CanSample 0 dictionary bins → IsStep (λ tiv number. ppm_part tiv (damage_before 0 dictionary (length bins) d)) step → end_before 0 bins (length bins) b < max (step.first * 1000000) 1 → IsStep (λ tiv number. sampled_loss tiv dictionary bins number) step
end_is_step dictionary bins d b step can is above = record {
  numbers = is.numbers;
  fits = is.fits;
  loss_is = λ tiv over value within.
      let number : ℕ = (step.first + over) * 1000000 in
      loss_behind-past tiv number (max number 1) 0 0 dictionary bins d b refl can.few
      (λ j under. omega (arith, ends_before bins (length bins) j b can.rising (omega arith) under, above))
      ∙ is.loss_is tiv over value within;
}

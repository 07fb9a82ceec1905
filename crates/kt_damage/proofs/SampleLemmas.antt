-- The first bin into which a number falls, and the bounds of a sampled loss.
use Rattle.std.proofs.Common.{◌≡◌, ℕ, zero, suc, ◌+◌, ◌-◌, ◌*◌, ◌/◌, ◌<◌, ◌≤◌, true, false, nat_lt, List, [], ◌∷◌, length, get_or, max, refl, arith, ◌∙◌}
use Rattle.std.specs.List.{All}
use Rattle.std.specs.List.Sorted.{IsNonDecreasingBy, IsPartitionPoint}
use Rattle.std.proofs.lemmas.Bool.{ltb-true, ltb-false}
use Rattle.std.proofs.lemmas.Bool.Decides.{nat_tests}
use Rattle.std.proofs.lemmas.Nat.{mul-le}
use Rattle.std.proofs.Math.Nat.{div-lt_iff_lt-mul, add-mul}
use Rattle.kt_money.specs.Rounding.{ppm_part}
use Rattle.kt_rec.specs.Ranges.{IsDamageBin}
use Rattle.kt_rec.specs.declared.hazard.DamageBin.{DamageBin}
use Rattle.kt_stream.specs.Bins.{AreBins, lowest}
use Rattle.kt_stream.specs.declared.entry.Bin.{Bin}
use Rattle.kt_damage.specs.SampledLoss.{falls_into, loss_in_bin, loss_behind}
use Rattle.kt_damage.specs.Sampled.{IsInBin, CanSample, end_before, damage_before}

-- the least probability of a bin is at least that before it
pub lowest-le : (left before : ℕ) → before ≤ lowest left before
lowest-le zero before = omega arith
lowest-le (suc left) before = omega arith

-- each bin's probability is at least that before the bins
pub before-le : (before k : ℕ) (bins : List Bin) (b : Bin) → AreBins before bins → k < length bins → before ≤ (get_or bins k b).prob_to
before-le before k [] b are below = absurd (omega arith)
before-le before zero (first ∷ bins) b are below = omega (arith, lowest-le (length bins) before, are.0)
before-le before (suc k) (first ∷ bins) b are below = omega (arith, lowest-le (length bins) before, are.0, before-le first.prob_to k bins b are.3 (omega arith))

-- the probabilities of bins do not fall
pub bins_rise : (before : ℕ) (bins : List Bin) → AreBins before bins → IsNonDecreasingBy (λ b. b.prob_to) bins
bins_rise before [] are = λ i j d order below. absurd (omega arith)
bins_rise before (first ∷ bins) are = λ i j d order below. by (bins_rise first.prob_to bins are.3) i j d order below
  where
    by : IsNonDecreasingBy (λ b. b.prob_to) bins → (i j : ℕ) (d : Bin) → i ≤ j → j < length (first ∷ bins) → (get_or (first ∷ bins) i d).prob_to ≤ (get_or (first ∷ bins) j d).prob_to
    by rest zero zero d order below = omega arith
    by rest zero (suc j) d order below = before-le first.prob_to j bins d are.3 (omega arith)
    by rest (suc i) zero d order below = absurd (omega arith)
    by rest (suc i) (suc j) d order below = rest i j d (omega arith) (omega arith)

-- a bin below the number is passed over
passes : (number least before : ℕ) (b : Bin) → least ≡ max number 1 → b.prob_to < least → falls_into number before b ≡ false
passes number least before b is below = grind (arith, nat_tests)

-- a bin that ends at the number or above takes it
takes : (number least before : ℕ) (b : Bin) → least ≡ max number 1 → before < least → least ≤ b.prob_to → falls_into number before b ≡ true
takes number least before b is above within = grind (arith, nat_tests)

-- the loss at a number is that in the first bin that ends at it or above
pub loss_behind-at : (tiv number least before high : ℕ) (dictionary : List DamageBin) (bins : List Bin) (k : ℕ) (d : DamageBin) (b : Bin) → least ≡ max number 1 → before < least → length bins ≤ length dictionary → k < length bins → ((j : ℕ) → j < k → (get_or bins j b).prob_to < least) → least ≤ (get_or bins k b).prob_to → loss_behind tiv number before high dictionary bins ≡ loss_in_bin tiv (get_or dictionary k d).bin_from (get_or dictionary k d).bin_to (end_before before bins k b) (get_or bins k b).prob_to number
loss_behind-at tiv number least before high dictionary [] k d b is above few below passed found = absurd (omega arith)
loss_behind-at tiv number least before high [] (first ∷ bins) k d b is above few below passed found = absurd (omega arith)
loss_behind-at tiv number least before high (row ∷ dictionary) (first ∷ bins) zero d b is above few below passed found =
    rw (takes number least before first is above found) refl
loss_behind-at tiv number least before high (row ∷ dictionary) (first ∷ bins) (suc k) d b is above few below passed found =
    let later = loss_behind-at tiv number least first.prob_to row.bin_to dictionary bins k d b is (passed 0 (omega arith)) (omega arith) (omega arith) (λ j under. passed (suc j) (omega arith)) found in
    rw (passes number least before first is (passed 0 (omega arith))) (later ∙ from k)
  where
    from : (k : ℕ) → loss_in_bin tiv (get_or dictionary k d).bin_from (get_or dictionary k d).bin_to (end_before first.prob_to bins k b) (get_or bins k b).prob_to number ≡ loss_in_bin tiv (get_or (row ∷ dictionary) (suc k) d).bin_from (get_or (row ∷ dictionary) (suc k) d).bin_to (end_before before (first ∷ bins) (suc k) b) (get_or (first ∷ bins) (suc k) b).prob_to number
    from zero = refl
    from (suc k) = refl

-- the loss at a number behind all bins is the end of the last
pub loss_behind-past : (tiv number least before high : ℕ) (dictionary : List DamageBin) (bins : List Bin) (d : DamageBin) (b : Bin) → least ≡ max number 1 → length bins ≤ length dictionary → ((j : ℕ) → j < length bins → (get_or bins j b).prob_to < least) → loss_behind tiv number before high dictionary bins ≡ ppm_part tiv (damage_before high dictionary (length bins) d)
loss_behind-past tiv number least before high [] [] d b is few passed = refl
loss_behind-past tiv number least before high (row ∷ dictionary) [] d b is few passed = refl
loss_behind-past tiv number least before high [] (first ∷ bins) d b is few passed = absurd (omega arith)
loss_behind-past tiv number least before high (row ∷ dictionary) (first ∷ bins) d b is few passed =
    rw (passes number least before first is (passed 0 (omega arith)))
    (loss_behind-past tiv number least first.prob_to row.bin_to dictionary bins d b is (omega arith) (λ j under. passed (suc j) (omega arith)) ∙ from bins)
  where
    from : (bins : List Bin) → ppm_part tiv (damage_before row.bin_to dictionary (length bins) d) ≡ ppm_part tiv (damage_before high (row ∷ dictionary) (length (first ∷ bins)) d)
    from [] = refl
    from (second ∷ bins) = refl

-- the damage at a number that falls into a bin is at most the whole
pub damage_within : (low high width over : ℕ) → low ≤ 1000000 → high ≤ 1000000 → over ≤ width → low * width + (high - low) * over ≤ 1000000 * width
damage_within low high width over least most within =
    let part = mul-le (high - low) over (high - low) width (omega arith) within in
    let whole = mul-le (low + (high - low)) width 1000000 width (omega arith) (omega arith) in
    omega (arith, part, whole, add-mul low (high - low) width)

-- a part of a value, to the nearest whole, is at most the value
pub part_within : (tiv damage unit : ℕ) → 0 < unit → damage ≤ unit → (2 * (tiv * damage) + unit) / (2 * unit) ≤ tiv
part_within tiv damage unit some within =
    let product = mul-le tiv damage tiv unit (omega arith) within in
    let up = (div-lt_iff_lt-mul {k = 2 * unit} {x = 2 * (tiv * damage) + unit} {y = tiv + 1} (omega arith)).1 in
    let expanded : (tiv + 1) * (2 * unit) ≡ 2 * (tiv * unit) + 2 * unit = simp add-mul (grind arith) in
    let below = up (omega (arith, product, expanded)) in
    omega arith

-- the end before a place is at or below that of the place
pub end_before-le : (least : ℕ) (bins : List Bin) (k : ℕ) (b : Bin) → 0 < least → ((j : ℕ) → j < k → (get_or bins j b).prob_to < least) → end_before 0 bins k b < least
end_before-le least bins zero b some passed = omega arith
end_before-le least bins (suc k) b some passed = passed k (omega arith)

-- each bin's probability is in its range
pub bin_within : (before k : ℕ) (bins : List Bin) (b : Bin) → AreBins before bins → k < length bins → (get_or bins k b).prob_to ≤ 1002001000000
bin_within before k [] b are below = absurd (omega arith)
bin_within before zero (first ∷ bins) b are below = are.1
bin_within before (suc k) (first ∷ bins) b are below = bin_within first.prob_to k bins b are.3 (omega arith)

-- where the bins stand that a partition found, what is before a place is below the number
pub passed-from : (bins : List Bin) (least k : ℕ) → IsPartitionPoint (λ (b : Bin). nat_lt b.prob_to least ≡ true) (λ (b : Bin). nat_lt b.prob_to least ≡ false) bins k → (b : Bin) (j : ℕ) → j < k → (get_or bins j b).prob_to < least
passed-from bins least k found b j under = ltb-true _ _ (found.0 j b (omega arith) under)

-- and what stands there is not
pub found-from : (bins : List Bin) (least k : ℕ) → IsPartitionPoint (λ (b : Bin). nat_lt b.prob_to least ≡ true) (λ (b : Bin). nat_lt b.prob_to least ≡ false) bins k → (b : Bin) → k < length bins → least ≤ (get_or bins k b).prob_to
found-from bins least k found b below = ltb-false _ _ (found.1 k b (omega arith) below)

-- the damage before a place is at most the whole
pub damage_before-le : (dictionary : List DamageBin) (k : ℕ) (d : DamageBin) → All IsDamageBin dictionary → k ≤ length dictionary → damage_before 0 dictionary k d ≤ 1000000
damage_before-le dictionary zero d ends within = omega arith
damage_before-le dictionary (suc k) d ends within = let row = ends k d (omega arith) in row.bin_to

-- the end before a place is not above the number
end_before-upto : (least number : ℕ) (bins : List Bin) (k : ℕ) (b : Bin) → least ≡ max number 1 → ((j : ℕ) → j < k → (get_or bins j b).prob_to < least) → end_before 0 bins k b ≤ number
end_before-upto least number bins zero b is passed = omega arith
end_before-upto least number bins (suc k) b is passed = let under = passed k (omega arith) in omega arith

-- a number falls into the first bin that ends at it or above
pub falls : (tiv number least : ℕ) (dictionary : List DamageBin) (bins : List Bin) (k : ℕ) (d : DamageBin) (b : Bin) → CanSample tiv dictionary bins → least ≡ max number 1 → k < length bins → ((j : ℕ) → j < k → (get_or bins j b).prob_to < least) → least ≤ (get_or bins k b).prob_to → IsInBin tiv (get_or dictionary k d).bin_from (get_or dictionary k d).bin_to (end_before 0 bins k b) (get_or bins k b).prob_to number
falls tiv number least dictionary bins k d b can is below passed found =
    let row = can.ends k d (omega (arith, can.few)) in
    record {
      value = can.value;
      least = row.bin_from;
      most = row.bin_to;
      wide = omega (arith, end_before-le least bins k b (omega arith) passed);
      whole = bin_within 0 k bins b can.rising below;
      above = end_before-upto least number bins k b is passed;
      below = omega arith;
    }

-- a share of a value in parts per million is at most the value
pub ppm_part-le : (tiv factor : ℕ) → factor ≤ 1000000 → ppm_part tiv factor ≤ tiv
ppm_part-le tiv factor within = part_within tiv factor 1000000 (omega arith) within

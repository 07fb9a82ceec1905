-- The bounds of losses: the mean and each sample of an item are at most its insured value, the deviation at most twice that.
use Rattle.std.proofs.Common.{◌≡◌, ◌⊎◌, ℕ, zero, suc, ◌+◌, ◌-◌, ◌*◌, ◌/◌, ◌^◌, ◌<◌, ◌≤◌, ◌&&◌, not, Bool, true, false, cond, nat_eq, nat_lt, nat_le, List, [], ◌∷◌, length, refl, arith, inl, inr}
use Rattle.std.specs.List.{All, AllByRecursion}
use Rattle.std.proofs.lemmas.Bool.{cases_lt, ltb-true, leb-true}
use Rattle.std.proofs.lemmas.Nat.{mul-le}
use Rattle.std.proofs.Math.Nat.{div-lt_iff_lt-mul}
use Rattle.kt_money.specs.Rounding.{root}
use Rattle.kt_money.specs.RoundingLaws.{root-is}
use Rattle.kt_money.specs.Sharing.{share_of}
use Rattle.kt_money.specs.SharingLaws.{share_of-le}
use Rattle.kt_rec.specs.Ranges.{IsDamageBin}
use Rattle.kt_rec.specs.Rows.{Rows}
use Rattle.kt_rec.specs.declared.exposure.Item.{Item}
use Rattle.kt_rec.specs.declared.hazard.DamageBin.{DamageBin}
use Rattle.kt_stream.specs.Bins.{AreBins, IsCdf}
use Rattle.kt_stream.specs.declared.entry.Bin.{Bin}
use Rattle.kt_stream.specs.declared.entry.Cdf.{Cdf}
use Rattle.kt_tables.specs.Lookups.{random_of}
use Rattle.kt_gul.specs.GroundUp.{bins_of, coverage_total, total_before, final_loss, ground_up_loss, has_pair, item_tiv, raw_loss}
use Rattle.kt_damage.specs.ItemMoments.{damage_deviation, means_behind, squares_behind}
use Rattle.kt_damage.specs.SampledLoss.{falls_into, loss_in_bin, loss_behind}
use Rattle.kt_damage.proofs.SampleLemmas.{damage_within, lowest-le, part_within, ppm_part-le}

-- ---- samples

-- what a number that falls into a bin shows
falls_parts : (number before : ℕ) (b : Bin) → falls_into number before b ≡ true → (before < b.prob_to) × (number ≤ b.prob_to)
falls_parts number before b is = by (nat_lt before b.prob_to) (nat_le number b.prob_to) refl refl is
  where
    by : (s t : Bool) → nat_lt before b.prob_to ≡ s → nat_le number b.prob_to ≡ t → (s && t) ≡ true → (before < b.prob_to) × (number ≤ b.prob_to)
    by true true one other both = (ltb-true before b.prob_to one, leb-true number b.prob_to other)
    by true false one other both = absurd cc
    by false t one other both = absurd cc

-- a sampled loss is at most the insured value
pub loss_behind-le : (tiv number before high : ℕ) (dictionary : List DamageBin) (bins : List Bin) → All IsDamageBin dictionary → high ≤ 1000000 → loss_behind tiv number before high dictionary bins ≤ tiv
loss_behind-le tiv number before high [] [] ends most = ppm_part-le tiv high most
loss_behind-le tiv number before high [] (b ∷ bins) ends most = ppm_part-le tiv high most
loss_behind-le tiv number before high (d ∷ dictionary) [] ends most = ppm_part-le tiv high most
loss_behind-le tiv number before high (d ∷ dictionary) (b ∷ bins) ends most =
    by (falls_into number before b) refl (loss_behind-le tiv number b.prob_to d.bin_to dictionary bins (λ k e below. ends (suc k) e (omega arith)) (let first = ends 0 d (omega arith) in first.bin_to))
  where
    by : (t : Bool) → falls_into number before b ≡ t → loss_behind tiv number b.prob_to d.bin_to dictionary bins ≤ tiv → cond t (loss_in_bin tiv d.bin_from d.bin_to before b.prob_to number) (loss_behind tiv number b.prob_to d.bin_to dictionary bins) ≤ tiv
    by false is rest = rest
    by true is rest =
        let parts = falls_parts number before b is in
        let wide = parts.0 in
        let below = parts.1 in
        let row = ends 0 d (omega arith) in
        part_within tiv (d.bin_from * (b.prob_to - before) + (d.bin_to - d.bin_from) * (number - before)) (1000000 * (b.prob_to - before)) (omega arith) (damage_within d.bin_from d.bin_to (b.prob_to - before) (number - before) row.bin_from row.bin_to (omega arith))

-- ---- deviations

-- the squares of bins behind a probability
squares_within : (before : ℕ) (bins : List Bin) → AreBins before bins → before ≤ 1002001000000 → squares_behind before bins + before * 1000000000000 ≤ 1002001000000 * 1000000000000
squares_within before [] are below = omega arith
squares_within before (b ∷ bins) are below =
    let order : before ≤ b.prob_to = omega (arith, lowest-le (length bins) before, are.0) in
    let square : b.mean * b.mean ≤ 1000000000000 = mul-le b.mean b.mean 1000000 1000000 are.2 are.2 in
    let part = mul-le (b.prob_to - before) (b.mean * b.mean) (b.prob_to - before) 1000000000000 (omega arith) square in
    let same : (b.prob_to - before) * b.mean * b.mean ≡ (b.prob_to - before) * (b.mean * b.mean) = grind arith in
    omega (arith, squares_within b.prob_to bins are.3 are.1)

-- a number whose next square is above has no greater root
root_within : (x most : ℕ) → x < (most + 1) * (most + 1) → root x ≤ most
root_within x most above = by (cases_lt most (root x))
  where
    by : (most < root x) ⊎ (root x ≤ most) → root x ≤ most
    by (inl less) = absurd (omega (arith, (root-is x).at_most, mul-le (most + 1) (most + 1) (root x) (root x) (omega arith) (omega arith)))
    by (inr within) = within

-- the deviation of a damage is at most twice the whole
deviation_within : (bins : List Bin) → AreBins 0 bins → damage_deviation bins ≤ 2000000000000000000
deviation_within bins are =
    root_within (squares_behind 0 bins * 10 ^ 12 - means_behind 0 bins * means_behind 0 bins) 2000000000000000000 (omega (arith, squares_within 0 bins are (omega arith)))

-- and that of a loss at most twice the insured value
loss_deviation-le : (tiv deviation : ℕ) → deviation ≤ 2000000000000000000 → tiv * deviation / 10 ^ 18 ≤ 2 * tiv
loss_deviation-le tiv deviation most =
    let product = mul-le tiv deviation tiv 2000000000000000000 (omega arith) most in
    let up = (div-lt_iff_lt-mul {k = 10 ^ 18} {x = tiv * deviation} {y = 2 * tiv + 1} (omega arith)).1 in
    let below = up (omega arith) in
    omega arith

-- ---- the losses of an item

-- the bins of an item's distribution are in their ranges
bins_are : (most : ℕ) (cdfs : List Cdf) (row : Item) → AllByRecursion (IsCdf most) cdfs → AreBins 0 (bins_of cdfs row)
bins_are most [] row each = tt
bins_are most (cdf ∷ cdfs) row each = by (has_pair cdf.areaperil cdf.vulnerability row) (bins_are most cdfs row each.1)
  where
    by : (b : Bool) → AreBins 0 (bins_of cdfs row) → AreBins 0 (cond b cdf.bins (bins_of cdfs row))
    by true rest = each.0.bins
    by false rest = rest

-- the cut leaves no more
final_le : (cut : Bool) (tiv total before loss place : ℕ) → final_loss cut tiv total before loss place ≤ loss
final_le cut tiv total before loss place = by (cut && not (nat_eq place 0)) (nat_lt tiv total) refl
  where
    by : (a b : Bool) → nat_lt tiv total ≡ b → cond a (cond b (share_of tiv total before loss) loss) loss ≤ loss
    by false b is = omega arith
    by true false is = omega arith
    by true true is = let less = ltb-true tiv total is in share_of-le tiv total before loss (omega arith)

module _ (rows : Rows) (event : ℕ) (cdfs : List Cdf) (ends : All IsDamageBin rows.damage_bin_dict) (most : ℕ) (each : AllByRecursion (IsCdf most) cdfs) where
  -- before the cut a loss is at most twice the insured value
  raw_loss-le : (row : Item) (place : ℕ) → raw_loss rows event cdfs row place ≤ 2 * item_tiv rows row
  raw_loss-le row zero = loss_deviation-le (item_tiv rows row) (damage_deviation (bins_of cdfs row)) (deviation_within (bins_of cdfs row) (bins_are most cdfs row each))
  raw_loss-le row (suc zero) = omega arith
  raw_loss-le row (suc (suc earlier)) =
      omega (arith, loss_behind-le (item_tiv rows row) (random_of rows event row.group_id (earlier + 1) * 1000000) 0 0 rows.damage_bin_dict (bins_of cdfs row) ends (omega arith))

  -- so is a ground-up loss
  pub ground_up_loss-le : (cut : Bool) (row : Item) (place : ℕ) → ground_up_loss rows cut event cdfs row place ≤ 2 * item_tiv rows row
  ground_up_loss-le cut row place =
      let loss : Item → ℕ = λ other. raw_loss rows event cdfs other place in
      omega (arith, raw_loss-le row place, final_le cut (item_tiv rows row) (coverage_total loss rows.items row.coverage_id) (total_before loss rows.items row) (loss row) place)

-- The worked examples of docs/CALCULATION.md, by computing.
-- The rules: docs/CALCULATION.md, "Sampled loss", "Mean and deviation of an item", "Coverage cut".
use Rattle.std.specs.Prelude.{◌≡◌, ◌*◌, ◌/◌, ◌^◌, List, [], ◌∷◌}
use Rattle.std.proofs.Common.{refl, ap, sym, arith}
use Rattle.kt_money.specs.RoundingLaws.{root-from_is}
use Rattle.kt_rec.specs.declared.hazard.DamageBin.{DamageBin}
use Rattle.kt_stream.specs.declared.entry.Bin.{Bin}
use Rattle.kt_tables.specs.Lookups.{random_place}
use Rattle.kt_gul.specs.GroundUp.{cut_loss}
use Rattle.kt_damage.specs.SampledLoss.{sampled_loss}
use Rattle.kt_damage.specs.ItemMoments.{mean_loss, loss_deviation}

-- no damage, up to a half, and up to the whole
dictionary : List DamageBin
dictionary = record { bin_index = 1; bin_from = 0; bin_to = 0; interpolation = 0; interval_type = 0 } ∷ record { bin_index = 2; bin_from = 0; bin_to = 500000; interpolation = 250000; interval_type = 0 } ∷ record { bin_index = 3; bin_from = 500000; bin_to = 1000000; interpolation = 750000; interval_type = 0 } ∷ []

-- with probabilities 0.5, 0.3 and 0.2
bins : List Bin
bins = record { prob_to = 500000000000; mean = 0 } ∷ record { prob_to = 800000000000; mean = 250000 } ∷ record { prob_to = 1000000000000; mean = 750000 } ∷ []

-- with probabilities 0.5, 0.3 and 0.199
fewer : List Bin
fewer = record { prob_to = 500000000000; mean = 0 } ∷ record { prob_to = 800000000000; mean = 250000 } ∷ record { prob_to = 999000000000; mean = 750000 } ∷ []

-- 0.65 is half way in the second bin
half_way : sampled_loss 100000 dictionary bins 650000000000 ≡ 25000
unfolding dictionary bins
half_way = refl

-- 0.5 is the end of the first bin
no_loss : sampled_loss 100000 dictionary bins 500000000000 ≡ 0
unfolding dictionary bins
no_loss = refl

-- 0.9995 is behind all bins
upper_end : sampled_loss 100000 dictionary fewer 999500000000 ≡ 100000
unfolding dictionary fewer
upper_end = refl

-- the mean of 1000.00
mean : mean_loss 100000 bins ≡ 22500
unfolding bins
mean = refl

-- its deviation, 283.94: the root is that of a number of 35 digits
deviation : loss_deviation 100000 bins ≡ 28394
unfolding bins
deviation = ap (λ d. 100000 * d / 10 ^ 18) (sym (root-from_is 80625000000000000000000000000000000 283945417290013680 (record { at_most = omega arith; next_above = omega arith })))

-- the first number of ten of event 1 and group 1, and the ninth
first_place : random_place 10 1 1 1 ≡ 2
first_place = refl

ninth_place : random_place 10 1 1 9 ≡ 0
ninth_place = refl

-- two losses of 700.00 and 600.00 of a coverage with 1000.00 become 538.46 and 461.54
first_of_two : cut_loss 100000 130000 0 70000 ≡ 53846
first_of_two = refl

second_of_two : cut_loss 100000 130000 70000 60000 ≡ 46154
second_of_two = refl

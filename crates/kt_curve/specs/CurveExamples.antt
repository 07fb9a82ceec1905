-- The worked examples of docs/CALCULATION.md, "Exceedance curves" and "Kinds of exceedance curves", by computing.
-- The rules: docs/CALCULATION.md, "Exceedance curves", "Kinds of exceedance curves".
use Rattle.std.specs.Prelude.{◌≡◌, ℕ, pos, List, [], ◌∷◌, ◌++◌}
use Rattle.std.specs.List.{flat_map}
use Rattle.std.proofs.Common.{refl}
use Rattle.kt_rec.specs.declared.perspective.Perspective.TheVariants.{Gul}
use Rattle.kt_rec.specs.declared.periods.Occurrence.{Occurrence}
use Rattle.kt_rec.specs.declared.curve.Curve.{Curve}
use Rattle.kt_rec.specs.declared.curve.Curve.TheVariants.{FullAep, FullOep, SampleAep, SampleOep, WheatAep, WheatOep, WheatmeanAep, WheatmeanOep}
use Rattle.kt_cell.specs.Losses.{Added, all_losses, total}
use Rattle.kt_ranks.specs.RankedLosses.{exceedance_loss, lec_row}
use Rattle.kt_curve.specs.Exceedance.{exceedance_rows, period_means, rank_means}
use Rattle.kt_curve.specs.Examples.{once}

-- texts, one behind the other
abbrev joined : List (List ℕ) → List ℕ
joined texts = flat_map (λ text. text) texts

-- the losses 90.00 and 30.00 in two of three periods
abbrev three : List ℕ
three = 3000 ∷ 0 ∷ 9000 ∷ []

once_in_one : exceedance_loss 3 three 1 ≡ 0
once_in_one = refl

once_in_two : exceedance_loss 3 three 2 ≡ 5000
once_in_two = refl

once_in_three : exceedance_loss 3 three 3 ≡ 9000
once_in_three = refl

-- an event in a period
abbrev in_period : ℕ → Occurrence
in_period period = record { event_id = 1; period_no = period; occ_year = 2001; occ_month = 1; occ_day = 1 }

-- one sample's loss in a period
abbrev one_loss : ℕ → ℕ → Added
one_loss period loss = record { perspective = Gul; set = 1; entry = record { event = 1; summary = 1; exposure = 0; pairs = record { sidx = pos 1; loss = loss } ∷ [] }; at = in_period period ∷ [] }

-- the curve of that sample has no row for four periods
one_curve : exceedance_rows WheatAep Gul 1 3 1 (all_losses (one_loss 2 3000 ∷ one_loss 3 9000 ∷ [])) (1 ∷ 2 ∷ 3 ∷ 4 ∷ []) ≡
    joined (joined (joined (lec_row 1 1 1 0 ∷ lec_row 1 1 2 5000 ∷ lec_row 1 1 3 9000 ∷ []) ∷ []) ∷ [])
one_curve = refl

-- the curves of a mean of 225.00 and two samples of 250.00 in one of two periods
abbrev of_once : Curve → List ℕ
of_once curve = exceedance_rows curve Gul 1 2 2 (all_losses once) (2 ∷ 1 ∷ [])

-- the mean, and all samples
abbrev both_types : List ℕ
both_types = joined ((joined (lec_row 1 1 2 22500 ∷ lec_row 1 1 1 0 ∷ []) ++ joined (lec_row 1 2 2 25000 ∷ lec_row 1 2 1 0 ∷ [])) ∷ [])

-- each sample
abbrev both_samples : List ℕ
both_samples = joined (joined (joined (lec_row 1 1 2 25000 ∷ lec_row 1 1 1 0 ∷ []) ∷ joined (lec_row 1 2 2 25000 ∷ lec_row 1 2 1 0 ∷ []) ∷ []) ∷ [])

-- the samples' mean
abbrev their_mean : List ℕ
their_mean = joined (joined (lec_row 1 2 2 25000 ∷ lec_row 1 2 1 0 ∷ []) ∷ [])

full_aep : of_once FullAep ≡ both_types
full_aep = refl

full_oep : of_once FullOep ≡ both_types
full_oep = refl

sample_aep : of_once SampleAep ≡ their_mean
sample_aep = refl

sample_oep : of_once SampleOep ≡ their_mean
sample_oep = refl

wheat_aep : of_once WheatAep ≡ both_samples
wheat_aep = refl

wheat_oep : of_once WheatOep ≡ both_samples
wheat_oep = refl

wheatmean_aep : of_once WheatmeanAep ≡ their_mean
wheatmean_aep = refl

wheatmean_oep : of_once WheatmeanOep ≡ their_mean
wheatmean_oep = refl

-- a sample's loss in the first of two periods, and another's in the second
abbrev apart : Added
apart = record { perspective = Gul; set = 1; entry = record { event = 2; summary = 1; exposure = 0; pairs = record { sidx = pos 2; loss = 3000 } ∷ [] }; at = in_period 2 ∷ [] }

of_periods : period_means Gul 1 2 2 (total (all_losses (one_loss 1 9000 ∷ apart ∷ []))) 1 ≡ 4500 ∷ 1500 ∷ []
of_periods = refl

of_ranks : rank_means Gul 1 2 2 (total (all_losses (one_loss 1 9000 ∷ apart ∷ []))) 1 ≡ 6000 ∷ 0 ∷ []
of_ranks = refl

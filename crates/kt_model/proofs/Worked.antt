-- A worked example: an event with two intensities at one areaperil, and a vulnerability with one damage bin at each.
use Rattle.std.proofs.Common.{◌≡◌, List, [], ◌∷◌, ◌++◌, refl, None, Some}
use Rattle.kt_rec.specs.Rows.{Rows, no_rows}
use Rattle.kt_rec.specs.declared.hazard.FootRow.{FootRow}
use Rattle.kt_rec.specs.declared.foot_rows.ModelStop.TheVariants as stop
use Rattle.kt_rec.specs.declared.foot_rows.RowCause.TheVariants as cause
use Rattle.kt_model.specs.Distribution.{distributions_of}
use Rattle.kt_rec.specs.FootRows.{first_refused_row}

-- an item at areaperil 1 with vulnerability 1, a damage bin at each of two intensities, and four bins

abbrev rows : Rows
rows = record no_rows {
  items = record { item_id = 1; coverage_id = 1; areaperil_id = 1; vulnerability_id = 1; group_id = 1 } ∷ [];
  vulnerability = record { vulnerability_id = 1; intensity_bin_id = 1; damage_bin_id = 1; prob = 1000000 } ∷ record { vulnerability_id = 1; intensity_bin_id = 2; damage_bin_id = 2; prob = 1000000 } ∷ [];
  damage_bin_dict =
      record { bin_index = 1; bin_from = 0; bin_to = 0; interpolation = 0; interval_type = 0 }
      ∷ record { bin_index = 2; bin_from = 0; bin_to = 500000; interpolation = 250000; interval_type = 0 }
      ∷ record { bin_index = 3; bin_from = 500000; bin_to = 1000000; interpolation = 750000; interval_type = 0 }
      ∷ [];
}

-- areaperil 1 has intensity 1 with probability 0.6, and intensity 2 with 0.4

abbrev foot : List FootRow
foot = record { areaperil = 1; intensity = 1; prob = 600000 } ∷ record { areaperil = 1; intensity = 2; prob = 400000 } ∷ []

-- two bins: 0.6 up to the first and 1 up to the second; the third has no chance and is left out
two_bins : distributions_of rows 1 foot ≡ record { event = 1; areaperil = 1; vulnerability = 1; bins = record { prob_to = 600000000000; mean = 0 } ∷ record { prob_to = 1000000000000; mean = 250000 } ∷ [] } ∷ []
two_bins = refl

-- no row is refused
none_refused : first_refused_row foot ≡ None
none_refused = refl

-- a third row of the same intensity stands twice, before its sum is looked at
twice : first_refused_row (foot ++ record { areaperil = 1; intensity = 2; prob = 999999 } ∷ []) ≡ Some (stop.Row 3 cause.Twice)
twice = refl

-- a third row of another intensity takes the areaperil above 1.001
above : first_refused_row (foot ++ record { areaperil = 1; intensity = 3; prob = 1001 } ∷ []) ≡ Some (stop.Row 3 cause.Sum)
above = refl

-- at 1.001 it is not refused
at_most : first_refused_row (foot ++ record { areaperil = 1; intensity = 3; prob = 1000 } ∷ []) ≡ None
at_most = refl

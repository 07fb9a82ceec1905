-- The values of the rows of the tables.
-- The rule: docs/TABLES.md, "Columns".
use Rattle.std.specs.Prelude.{ℕ, List, [], ◌∷◌}
use Rattle.kt_rec.specs.declared.hazard.Event.{Event}
use Rattle.kt_rec.specs.declared.exposure.Item.{Item}
use Rattle.kt_rec.specs.declared.exposure.Coverage.{Coverage}
use Rattle.kt_rec.specs.declared.hazard.FootprintIdx.{FootprintIdx}
use Rattle.kt_rec.specs.declared.hazard.Vulnerability.{Vulnerability}
use Rattle.kt_rec.specs.declared.hazard.DamageBin.{DamageBin}
use Rattle.kt_rec.specs.declared.hazard.Random.{Random}
use Rattle.kt_rec.specs.declared.financial.FmProgramme.{FmProgramme}
use Rattle.kt_rec.specs.declared.financial.FmPolicytc.{FmPolicytc}
use Rattle.kt_rec.specs.declared.financial.FmProfile.{FmProfile}
use Rattle.kt_rec.specs.declared.financial.FmXref.{FmXref}
use Rattle.kt_rec.specs.declared.summary.GulSummaryXref.{GulSummaryXref}
use Rattle.kt_rec.specs.declared.summary.FmSummaryXref.{FmSummaryXref}
use Rattle.kt_rec.specs.declared.periods.Occurrence.{Occurrence}
use Rattle.kt_rec.specs.declared.periods.ReturnPeriod.{ReturnPeriod}

-- the values of a row of `Events`
abbrev pub event_values : Event → List ℕ
event_values row = row.event_id ∷ []

-- the values of a row of `Items`
abbrev pub item_values : Item → List ℕ
item_values row = row.item_id ∷ row.coverage_id ∷ row.areaperil_id ∷ row.vulnerability_id ∷ row.group_id ∷ []

-- the values of a row of `Coverages`
abbrev pub coverage_values : Coverage → List ℕ
coverage_values row = row.coverage_id ∷ row.tiv ∷ []

-- the values of a row of `FootprintIdx`
abbrev pub footprint_idx_values : FootprintIdx → List ℕ
footprint_idx_values row = row.event_id ∷ row.offset ∷ row.size ∷ []

-- the values of a row of `Vulnerability`
abbrev pub vulnerability_values : Vulnerability → List ℕ
vulnerability_values row = row.vulnerability_id ∷ row.intensity_bin_id ∷ row.damage_bin_id ∷ row.prob ∷ []

-- the values of a row of `DamageBinDict`
abbrev pub damage_bin_values : DamageBin → List ℕ
damage_bin_values row = row.bin_index ∷ row.bin_from ∷ row.bin_to ∷ row.interpolation ∷ row.interval_type ∷ []

-- the values of a row of `Random`
abbrev pub random_values : Random → List ℕ
random_values row = row.random ∷ []

-- the values of a row of `FmProgramme`
abbrev pub fm_programme_values : FmProgramme → List ℕ
fm_programme_values row = row.from_agg_id ∷ row.level_id ∷ row.to_agg_id ∷ []

-- the values of a row of `FmPolicytc`
abbrev pub fm_policytc_values : FmPolicytc → List ℕ
fm_policytc_values row = row.layer_id ∷ row.level_id ∷ row.agg_id ∷ row.policytc_id ∷ []

-- the values of a row of `FmProfile`
abbrev pub fm_profile_values : FmProfile → List ℕ
fm_profile_values row = row.policytc_id ∷ row.calcrule_id ∷ row.deductible1 ∷ row.deductible2 ∷ row.deductible3 ∷ row.attachment1 ∷ row.limit1 ∷ row.share1 ∷ row.share2 ∷ row.share3 ∷ []

-- the values of a row of `FmXref`
abbrev pub fm_xref_values : FmXref → List ℕ
fm_xref_values row = row.output_id ∷ row.agg_id ∷ row.layer_id ∷ []

-- the values of a row of `GulSummaryXref`
abbrev pub gul_summary_xref_values : GulSummaryXref → List ℕ
gul_summary_xref_values row = row.item_id ∷ row.summary_id ∷ row.summaryset_id ∷ []

-- the values of a row of `FmSummaryXref`
abbrev pub fm_summary_xref_values : FmSummaryXref → List ℕ
fm_summary_xref_values row = row.output_id ∷ row.summary_id ∷ row.summaryset_id ∷ []

-- the values of a row of `Occurrence`
abbrev pub occurrence_values : Occurrence → List ℕ
occurrence_values row = row.event_id ∷ row.period_no ∷ row.occ_year ∷ row.occ_month ∷ row.occ_day ∷ []

-- the values of a row of `ReturnPeriods`
abbrev pub return_period_values : ReturnPeriod → List ℕ
return_period_values row = row.return_period ∷ []

-- The ranges of the fields of rows.
-- The rules: docs/TABLES.md.
use Rattle.std.specs.Prelude.{ℕ, ◌≤◌, ◌^◌, ◌==◌, ◌&&◌, ◌||◌, nat_le, Bool, true, false, ◌≡◌, All}
use Rattle.kt_rec.specs.declared.exposure.Coverage.{Coverage}
use Rattle.kt_rec.specs.declared.exposure.Item.{Item}
use Rattle.kt_rec.specs.declared.financial.FmPolicytc.{FmPolicytc}
use Rattle.kt_rec.specs.declared.financial.FmProfile.{FmProfile}
use Rattle.kt_rec.specs.declared.financial.FmProgramme.{FmProgramme}
use Rattle.kt_rec.specs.declared.financial.FmXref.{FmXref}
use Rattle.kt_rec.specs.declared.hazard.DamageBin.{DamageBin}
use Rattle.kt_rec.specs.declared.hazard.FootprintIdx.{FootprintIdx}
use Rattle.kt_rec.specs.declared.hazard.Vulnerability.{Vulnerability}
use Rattle.kt_rec.specs.declared.periods.Occurrence.{Occurrence}
use Rattle.kt_rec.specs.declared.summary.FmSummaryXref.{FmSummaryXref}
use Rattle.kt_rec.specs.declared.summary.GulSummaryXref.{GulSummaryXref}
use Rattle.kt_rec.specs.Rows.{FinancialRows, Rows}

-- an id
pub record IsId (number : ℕ) : Type 0 where
  pub least : 1 ≤ number
  pub most : number ≤ 2147483647

-- parts per million, at most the whole
abbrev pub IsPart : ℕ → Type 0
IsPart number = number ≤ 1000000

-- the ids of an item
pub record IsItem (row : Item) : Type 0 where
  pub item_id : IsId row.item_id
  pub coverage_id : IsId row.coverage_id
  pub areaperil_id : IsId row.areaperil_id
  pub vulnerability_id : IsId row.vulnerability_id
  pub group_id : IsId row.group_id

-- an insured value is at most 10^14 cents
pub record IsCoverage (row : Coverage) : Type 0 where
  pub coverage_id : IsId row.coverage_id
  pub tiv : row.tiv ≤ 100000000000000

-- an intensity is at most 10,000, a damage bin at most 1,000
pub record IsVulnerability (row : Vulnerability) : Type 0 where
  pub vulnerability_id : IsId row.vulnerability_id
  pub least_intensity : 1 ≤ row.intensity_bin_id
  pub most_intensity : row.intensity_bin_id ≤ 10000
  pub least_damage : 1 ≤ row.damage_bin_id
  pub most_damage : row.damage_bin_id ≤ 1000
  pub prob : IsPart row.prob

-- a damage bin is at most 1,000, its ends and mean are parts of the insured value, and its type is a count
pub record IsDamageBin (row : DamageBin) : Type 0 where
  pub least_index : 1 ≤ row.bin_index
  pub most_index : row.bin_index ≤ 1000
  pub bin_from : IsPart row.bin_from
  pub bin_to : IsPart row.bin_to
  pub interpolation : IsPart row.interpolation
  pub interval_type : row.interval_type ≤ 2147483647

-- a count
abbrev pub IsCount : ℕ → Type 0
IsCount number = number ≤ 2147483647

-- a term or an amount of a policy, in cents
abbrev pub IsAmount : ℕ → Type 0
IsAmount cents = cents ≤ 10 ^ 17

-- a place or a size in a file, in bytes
abbrev pub IsOffset : ℕ → Type 0
IsOffset bytes = bytes ≤ 2 ^ 40

-- the place and the size of an event's records in the footprint's file
pub record IsFootprintIdx (row : FootprintIdx) : Type 0 where
  pub event_id : IsId row.event_id
  pub offset : IsOffset row.offset
  pub size : IsOffset row.size

-- a level is at most 12
pub record IsLevel (level : ℕ) : Type 0 where
  pub least : 1 ≤ level
  pub most : level ≤ 12

-- a layer is at most 50
pub record IsLayer (layer : ℕ) : Type 0 where
  pub least : 1 ≤ layer
  pub most : layer ≤ 50

-- a set of summaries is at most 9
pub record IsSet (set : ℕ) : Type 0 where
  pub least : 1 ≤ set
  pub most : set ≤ 9

-- the ids of a unit and of the one above it, and the level
pub record IsFmProgramme (row : FmProgramme) : Type 0 where
  pub from_agg_id : IsId row.from_agg_id
  pub level_id : IsLevel row.level_id
  pub to_agg_id : IsId row.to_agg_id

-- the layer, the level, and the ids of a unit and of its terms
pub record IsFmPolicytc (row : FmPolicytc) : Type 0 where
  pub layer_id : IsLayer row.layer_id
  pub level_id : IsLevel row.level_id
  pub agg_id : IsId row.agg_id
  pub policytc_id : IsId row.policytc_id

-- the rules whose first deductible is in parts per million
abbrev pub is_deductible_part : ℕ → Bool
is_deductible_part rule =
    (rule == 4) || (rule == 5) || (rule == 6) || (rule == 9) || (nat_le 16 rule && nat_le rule 19) || (rule == 21) || (rule == 26)

-- the rules whose limit is in parts per million
abbrev pub is_limit_part : ℕ → Bool
is_limit_part rule = (rule == 5) || (rule == 15)

-- the numbers of the calculation rules: 1 to 26, and 100
abbrev pub is_rule_number : ℕ → Bool
is_rule_number rule = (nat_le 1 rule && nat_le rule 26) || (rule == 100)

-- a term in cents, or in parts per million
abbrev pub IsTerm : Bool → ℕ → Type 0
IsTerm true term = IsPart term
IsTerm false term = IsAmount term

-- the terms of a policy by their rule
pub record IsFmProfile (row : FmProfile) : Type 0 where
  pub policytc_id : IsId row.policytc_id
  pub calcrule_id : is_rule_number row.calcrule_id ≡ true
  pub deductible1 : IsTerm (is_deductible_part row.calcrule_id) row.deductible1
  pub deductible2 : IsAmount row.deductible2
  pub deductible3 : IsAmount row.deductible3
  pub attachment1 : IsAmount row.attachment1
  pub limit1 : IsTerm (is_limit_part row.calcrule_id) row.limit1
  pub share1 : IsPart row.share1
  pub share2 : IsPart row.share2
  pub share3 : IsPart row.share3

-- the ids of an output and of what it is for, and the layer
pub record IsFmXref (row : FmXref) : Type 0 where
  pub output_id : IsId row.output_id
  pub agg_id : IsId row.agg_id
  pub layer_id : IsLayer row.layer_id

-- the ids of an item and of its summary, and the set
pub record IsGulSummaryXref (row : GulSummaryXref) : Type 0 where
  pub item_id : IsId row.item_id
  pub summary_id : IsId row.summary_id
  pub summaryset_id : IsSet row.summaryset_id

-- the ids of an output and of its summary, and the set
pub record IsFmSummaryXref (row : FmSummaryXref) : Type 0 where
  pub output_id : IsId row.output_id
  pub summary_id : IsId row.summary_id
  pub summaryset_id : IsSet row.summaryset_id

-- the event, the period, and the parts of a date
pub record IsOccurrence (row : Occurrence) : Type 0 where
  pub event_id : IsId row.event_id
  pub period_no : IsId row.period_no
  pub occ_year : IsCount row.occ_year
  pub occ_month : IsCount row.occ_month
  pub occ_day : IsCount row.occ_day

-- the rows of the three financial tables of the base or of a stage
pub record AreFinancial (rows : FinancialRows) : Type 0 where
  pub programme : All IsFmProgramme rows.programme
  pub policytc : All IsFmPolicytc rows.policytc
  pub profile : All IsFmProfile rows.profile

-- the number of periods
pub record ArePeriods (periods : ℕ) : Type 0 where
  pub least : 1 ≤ periods
  pub most : periods ≤ 100000

-- the rows of all tables are in the ranges of their fields
pub record AreInRange (rows : Rows) : Type 0 where
  pub events : All (λ row. IsId row.event_id) rows.events
  pub items : All IsItem rows.items
  pub coverages : All IsCoverage rows.coverages
  pub footprint_idx : All IsFootprintIdx rows.footprint_idx
  pub vulnerability : All IsVulnerability rows.vulnerability
  pub damage_bin_dict : All IsDamageBin rows.damage_bin_dict
  pub random : All (λ row. IsPart row.random) rows.random
  pub fm_xref : All IsFmXref rows.fm_xref
  pub gulsummaryxref : All IsGulSummaryXref rows.gulsummaryxref
  pub fmsummaryxref : All IsFmSummaryXref rows.fmsummaryxref
  pub occurrence : All IsOccurrence rows.occurrence
  pub returnperiods : All (λ row. IsId row.return_period) rows.returnperiods
  pub financial : All AreFinancial rows.financial

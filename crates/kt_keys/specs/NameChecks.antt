-- The checks of what a table names but another table lacks.
-- The rules: docs/CHECKS.md, "Coverages of items", "Damage bins of vulnerabilities", "Profiles of terms", "What outputs
-- are for", "Items and outputs of summaries".
use Rattle.std.specs.Prelude.{ℕ, ◌&&◌, nat_eq, Bool, cond, List, [], ◌∷◌, map, Option}
use Rattle.kt_rec.specs.declared.table.Table.TheVariants.{Items, Coverages, Vulnerability, DamageBinDict, FmProgramme, FmPolicytc, FmProfile, FmXref, GulSummaryXref, FmSummaryXref}
use Rattle.kt_rec.specs.Rows.{Rows}
use Rattle.kt_keys.specs.declared.need.Need.{Need}
use Rattle.kt_keys.specs.declared.need.Refusal.{Refusal}
use Rattle.kt_keys.specs.FirstRow.{unknown_at}
use Rattle.kt_keys.specs.Refusals.{at_stage, is_loaded, refusal, first_of}
use Rattle.kt_keys.specs.Keys.{programme_of, policytc_of, profile_of}
use Rattle.kt_keys.specs.Units.{top_targets}

-- check 4: the coverage of an item is not in the coverages
abbrev pub coverage_check : Rows → Need → Option Refusal
coverage_check rows need = refusal 4 (at_stage 0 Items) (is_loaded need 0 Items && is_loaded need 0 Coverages) (unknown_at nat_eq (map (λ row. row.coverage_id) rows.coverages) (map (λ row. row.coverage_id) rows.items))

-- check 7: the damage bin of a vulnerability is not in the dictionary
abbrev pub damage_check : Rows → Need → Option Refusal
damage_check rows need = refusal 7 (at_stage 0 Vulnerability) (is_loaded need 0 Vulnerability && is_loaded need 0 DamageBinDict) (unknown_at nat_eq (map (λ row. row.bin_index) rows.damage_bin_dict) (map (λ row. row.damage_bin_id) rows.vulnerability))

-- check 14: the profile of policy terms is not in the profiles
abbrev pub profile_check : Rows → Need → ℕ → Option Refusal
profile_check rows need stage = refusal 14 (at_stage stage FmPolicytc) (is_loaded need stage FmPolicytc && is_loaded need stage FmProfile) (unknown_at nat_eq (map (λ row. row.policytc_id) (profile_of rows stage)) (map (λ row. row.policytc_id) (policytc_of rows stage)))

-- what an output may be for: by rule 0 a unit of the top level, by the others an item
abbrev pub output_units : Rows → ℕ → List ℕ
output_units rows rule = cond (nat_eq rule 0) (top_targets (programme_of rows 0)) (map (λ row. row.item_id) rows.items)

-- whether the tables are loaded that have the outputs and what they may be for
abbrev pub has_units : Need → Bool
has_units need = is_loaded need 0 FmXref && is_loaded need 0 (cond (nat_eq need.rule 0) FmProgramme Items)

-- check 15: an output is for no item, or by rule 0 for no unit of the top level
abbrev pub output_unit_check : Rows → Need → Option Refusal
output_unit_check rows need = refusal 15 (at_stage 0 FmXref) (has_units need) (unknown_at nat_eq (output_units rows need.rule) (map (λ row. row.agg_id) rows.fm_xref))

-- check 17 of items: a summary is of no item
abbrev pub item_summary_check : Rows → Need → Option Refusal
item_summary_check rows need =
    refusal 17 (at_stage 0 GulSummaryXref) (is_loaded need 0 GulSummaryXref && is_loaded need 0 Items) (unknown_at nat_eq (map (λ row. row.item_id) rows.items) (map (λ row. row.item_id) rows.gulsummaryxref))

-- check 17 of outputs: a summary is of no output
abbrev pub output_summary_check : Rows → Need → Option Refusal
output_summary_check rows need =
    refusal 17 (at_stage 0 FmSummaryXref) (is_loaded need 0 FmSummaryXref && is_loaded need 0 FmXref) (unknown_at nat_eq (map (λ row. row.output_id) rows.fm_xref) (map (λ row. row.output_id) rows.fmsummaryxref))

-- check 17: a summary is of no item, or of no output
abbrev pub summary_checks : Rows → Need → Option Refusal
summary_checks rows need = first_of (item_summary_check rows need ∷ output_summary_check rows need ∷ [])

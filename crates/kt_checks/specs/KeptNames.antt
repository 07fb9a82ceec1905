-- In valid tables what rows name is there: the checks 4, 7, 9, 14, 15 and 17.
-- The rule: docs/CHECKS.md, "Order".
use Rattle.std.specs.Prelude.{◌≡◌, ℕ, ◌<◌, nat_eq, true, cond, [], ◌∷◌, map, All, None, slice_index_or}
use Rattle.std.specs.List.{list_any}
use Rattle.std.proofs.Common.{arith}
use Rattle.kt_rec.specs.declared.table.Table.TheVariants as table
use Rattle.kt_rec.specs.Rows.{Rows}
use Rattle.kt_keys.specs.declared.need.Need.{Need}
use Rattle.kt_keys.specs.Keys.{policytc_of, profile_of}
use Rattle.kt_keys.specs.NameChecks.{item_summary_check, output_summary_check, output_units, profile_check}
use Rattle.kt_keys.specs.Refusals.{at_stage, is_loaded}
use Rattle.kt_checks.specs.CheckLaws.{all_loaded, both, each_none, each_placed, keeps-from_valid, known_loaded, no_row, stage_none}
use Rattle.kt_checks.specs.Checks.{HasOnlyNeeded, IsValid, KeepsCheck, table_checks, programme_checks, size_checks}
use Rattle.kt_checks.specs.KeptChecks.{KeepsNames}
use Rattle.kt_checks.specs.KeptTables.{base_empty, stage_empty}
use Rattle.kt_checks.specs.TableChecks.{IsPlaced}

module _ (rows : Rows) (need : Need) (valid : IsValid rows need) (needed : HasOnlyNeeded rows need) where
  -- check 4: the coverage of each item is known
  coverages_known : is_loaded need 0 table.Coverages ≡ true → All (λ row. list_any (nat_eq row.coverage_id) (map (λ x. x.coverage_id) rows.coverages) ≡ true) rows.items
  unfolding table_checks
  coverages_known coverages =
      let keeps : KeepsCheck 4 rows need = keeps-from_valid 4 rows need valid in
      known_loaded nat_eq (map (λ x. x.coverage_id) rows.coverages) (λ row. row.coverage_id) rows.items 4 (at_stage 0 table.Items) (is_loaded need 0 table.Items) (base_empty rows need needed table.Items) _ coverages keeps.none

  -- check 7: the damage bin of each row of vulnerability is known
  damage_bins_known : is_loaded need 0 table.DamageBinDict ≡ true → All (λ row. list_any (nat_eq row.damage_bin_id) (map (λ x. x.bin_index) rows.damage_bin_dict) ≡ true) rows.vulnerability
  unfolding table_checks
  damage_bins_known bins =
      let keeps : KeepsCheck 7 rows need = keeps-from_valid 7 rows need valid in
      known_loaded nat_eq (map (λ x. x.bin_index) rows.damage_bin_dict) (λ row. row.damage_bin_id) rows.vulnerability 7 (at_stage 0 table.Vulnerability) (is_loaded need 0 table.Vulnerability) (base_empty rows need needed table.Vulnerability) _ bins keeps.none

  -- check 9: the records of each event lie in the footprint file
  places_known : is_loaded need 0 table.Footprint ≡ true → All (IsPlaced rows.footprint_size) rows.footprint_idx
  unfolding table_checks
  places_known footprint =
      let keeps : KeepsCheck 9 rows need = keeps-from_valid 9 rows need valid in
      all_loaded (IsPlaced rows.footprint_size) rows.footprint_idx (is_loaded need 0 table.FootprintIdx) (base_empty rows need needed table.FootprintIdx)
      (λ index. each_placed rows.footprint_size rows.footprint_idx (no_row 9 (at_stage 0 table.FootprintIdx) _ _ keeps.none (both _ _ index footprint)))

  -- check 14: the profile of each row of policy terms is known
  profiles_known : (stage : ℕ) → stage < 10 → is_loaded need stage table.FmProfile ≡ true → All (λ row. list_any (nat_eq row.policytc_id) (map (λ x. x.policytc_id) (profile_of rows stage)) ≡ true) (policytc_of rows stage)
  unfolding table_checks programme_checks
  profiles_known stage below profiles =
      let keeps : KeepsCheck 14 rows need = keeps-from_valid 14 rows need valid in
      known_loaded nat_eq (map (λ x. x.policytc_id) (profile_of rows stage)) (λ row. row.policytc_id) (policytc_of rows stage) 14 (at_stage stage table.FmPolicytc) (is_loaded need stage table.FmPolicytc) (stage_empty rows need needed stage below table.FmPolicytc (omega arith) (omega arith)) _ profiles (stage_none (profile_check rows need) 10 stage keeps.none below)

  -- check 15: each output is for what it may be for
  output_units_known : is_loaded need 0 (cond (nat_eq need.rule 0) table.FmProgramme table.Items) ≡ true → All (λ row. list_any (nat_eq row.agg_id) (output_units rows need.rule) ≡ true) rows.fm_xref
  unfolding table_checks programme_checks
  output_units_known units =
      let keeps : KeepsCheck 15 rows need = keeps-from_valid 15 rows need valid in
      known_loaded nat_eq (output_units rows need.rule) (λ row. row.agg_id) rows.fm_xref 15 (at_stage 0 table.FmXref) (is_loaded need 0 table.FmXref) (base_empty rows need needed table.FmXref) _ units keeps.none

  -- check 17 refuses no summary of items, and none of outputs
  summary_none : (place : ℕ) → slice_index_or (item_summary_check rows need ∷ output_summary_check rows need ∷ []) place None ≡ None
  unfolding table_checks programme_checks size_checks
  summary_none = let keeps : KeepsCheck 17 rows need = keeps-from_valid 17 rows need valid in each_none (item_summary_check rows need ∷ output_summary_check rows need ∷ []) keeps.none

  -- in valid tables what rows name is there
  pub keeps_names : KeepsNames rows need
  keeps_names = record {
    coverages = coverages_known;
    damage_bins = damage_bins_known;
    places = places_known;
    profiles = profiles_known;
    output_units = output_units_known;
    items = λ items. known_loaded nat_eq (map (λ x. x.item_id) rows.items) (λ row. row.item_id) rows.gulsummaryxref 17 (at_stage 0 table.GulSummaryXref) (is_loaded need 0 table.GulSummaryXref) (base_empty rows need needed table.GulSummaryXref) _ items (summary_none 0);
    outputs = λ outputs. known_loaded nat_eq (map (λ x. x.output_id) rows.fm_xref) (λ row. row.output_id) rows.fmsummaryxref 17 (at_stage 0 table.FmSummaryXref) (is_loaded need 0 table.FmSummaryXref) (base_empty rows need needed table.FmSummaryXref) _ outputs (summary_none 1);
  }

-- Valid tables keep their sizes and keys: the checks 1 to 3, 5, 10, 18, 19 and 21.
-- The rule: docs/CHECKS.md, "Order".
use Rattle.std.specs.Prelude.{◌≡◌, ℕ, ◌≤◌, ◌+◌, ◌*◌, ◌<◌, ◌||◌, Bool, true, false, cond, nat_lt, List, [], ◌∷◌, length, refl, Option, None, slice_index_or}
use Rattle.std.specs.List.{sum_by}
use Rattle.std.specs.Cmp.{nat_eq_equiv}
use Rattle.std.proofs.Common.{sym, subst, arith, inl, inr}
use Rattle.std.proofs.lemmas.Bool.{lt-ltb}
use Rattle.std.proofs.lemmas.List.{nil_from_length}
use Rattle.std.proofs.lemmas.List.Sums.{sum_by-cons}
use Rattle.kt_rec.specs.declared.exposure.Coverage.{Coverage}
use Rattle.kt_rec.specs.declared.exposure.Item.{Item}
use Rattle.kt_rec.specs.declared.table.Table.{Table}
use Rattle.kt_rec.specs.declared.table.Table.TheVariants as table
use Rattle.kt_rec.specs.PlaceLaws.{of_base, of_stage}
use Rattle.kt_rec.specs.Places.{row_count}
use Rattle.kt_rec.specs.Rows.{Rows}
use Rattle.kt_rec.specs.TableNames.{IsTableId, number_of}
use Rattle.kt_rec.specs.declared.table.TableId.{TableId}
use Rattle.kt_keys.specs.declared.need.Need.{Need}
use Rattle.kt_keys.specs.declared.need.Refusal.{Refusal}
use Rattle.kt_keys.specs.KeyChecks.{key_check, output_check}
use Rattle.kt_keys.specs.Keys.{programme_of, financial_of}
use Rattle.kt_keys.specs.Refusals.{at_stage, is_loaded}
use Rattle.kt_checks.specs.CheckLaws.{each_none, keeps-from_valid, listed_none, no_row, both, stage_none, not_above, not_empty, sum_within, apart_loaded, same_pair_equiv, same_triple_equiv}
use Rattle.kt_checks.specs.Checks.{HasOnlyNeeded, IsValid, KeepsCheck, table_checks, programme_checks, size_checks}
use Rattle.kt_checks.specs.KeptChecks.{AreFinancialKeys, FitsSamples, KeepsKeys, KeepsSizes}
use Rattle.kt_checks.specs.SummaryChecks.{item_summaries, output_summaries, sample_checks, sample_refusals, summary_size_check, summaries_of}
use Rattle.kt_checks.specs.TableChecks.{empty_programme, empty_refusals, limit_check, row_limit, tiv_of}

-- without coverages, items are worth nothing
worth-nothing : (items : List Item) → sum_by (λ row. tiv_of [] row.coverage_id) items ≡ 0
worth-nothing [] = refl
worth-nothing (item ∷ items) = omega (arith, sum_by-cons (λ row. tiv_of [] row.coverage_id) item items, worth-nothing items)

-- a product with a number that is 0 is 0
product-none : (one other : ℕ) (loaded : Bool) → (loaded ≡ false → one ≡ 0) → (loaded ≡ true → one * other ≤ 2000000) → one * other ≤ 2000000
product-none one other true empty most = most refl
product-none one other false empty most = subst (λ n. n * other ≤ 2000000) (sym (empty refl)) (omega arith)

module _ (rows : Rows) (need : Need) (needed : HasOnlyNeeded rows need) where
  -- a table of the base that is not loaded has no row
  pub base_empty : (table : Table) → is_loaded need 0 table ≡ false → row_count rows (at_stage 0 table) ≡ 0
  unfolding is_loaded
  base_empty table absent = needed (at_stage 0 table) (record { stages = omega arith; financial = inl refl }) absent

  -- a financial table of a stage that is not loaded has no row
  pub stage_empty : (stage : ℕ) → stage < 10 → (table : Table) → 9 ≤ number_of table → number_of table ≤ 11 → is_loaded need stage table ≡ false → row_count rows (at_stage stage table) ≡ 0
  unfolding is_loaded
  stage_empty stage below table least most absent = needed (at_stage stage table) (record { stages = omega arith; financial = inr (least, most) }) absent

  -- where the checks 18 and 19 refuse nothing for so many samples, these fit
  pub fits_samples : (samples : ℕ) → sample_checks rows need samples ≡ None → summary_size_check rows need samples ≡ None → FitsSamples rows need samples
  fits_samples samples cells summaries = record {
    items = product-none (length rows.items) (samples + 2) (is_loaded need 0 table.Items) (base_empty table.Items) (λ loaded. not_above 2000000 (length rows.items * (samples + 2)) (length rows.items) (no_row 18 (at_stage 0 table.Items) _ _ (each_none (sample_refusals rows need samples) cells 0) loaded));
    outputs = product-none (length rows.fm_xref) (samples + 2) (is_loaded need 0 table.FmXref) (base_empty table.FmXref) (λ loaded. not_above 2000000 (length rows.fm_xref * (samples + 2)) (length rows.fm_xref) (no_row 18 (at_stage 0 table.FmXref) _ _ (each_none (sample_refusals rows need samples) cells 1) loaded));
    summaries = by (is_loaded need 0 table.GulSummaryXref) (is_loaded need 0 table.FmSummaryXref) (item_summaries rows) (cond need.net 2 1 * output_summaries rows) (λ one. summary_total one);
  }
    where
      summary_total : (is_loaded need 0 table.GulSummaryXref || is_loaded need 0 table.FmSummaryXref) ≡ true → summaries_of rows need * (samples + 2) ≤ 1000000
      summary_total one = not_above 1000000 (summaries_of rows need * (samples + 2)) 0 (no_row 19 (at_stage 0 (cond (is_loaded need 0 table.FmSummaryXref) table.FmSummaryXref table.GulSummaryXref)) _ _ summaries one)

      by : (a b : Bool) (items outputs : ℕ) → ((a || b) ≡ true → (cond a items 0 + cond b outputs 0) * (samples + 2) ≤ 1000000) → (cond a items 0 + cond b outputs 0) * (samples + 2) ≤ 1000000
      by true b items outputs most = most refl
      by false true items outputs most = most refl
      by false false items outputs most = omega arith

module _ (rows : Rows) (need : Need) (valid : IsValid rows need) (needed : HasOnlyNeeded rows need) where
  -- ---- sizes

  -- check 1: no table has more rows than its limit; it has no row where it is not loaded
  within_limits : (id : TableId) → IsTableId id → row_count rows id ≤ row_limit id.table
  unfolding table_checks is_loaded
  within_limits id is = by (is_loaded need id.stage id.table) refl
    where
      none : limit_check rows need id ≡ None
      none = let keeps : KeepsCheck 1 rows need = keeps-from_valid 1 rows need valid in listed_none (limit_check rows need) keeps.none id is

      by : (b : Bool) → is_loaded need id.stage id.table ≡ b → row_count rows id ≤ row_limit id.table
      by true loaded = not_above (row_limit id.table) (row_count rows id) (row_limit id.table + 1) (no_row 1 id _ _ none loaded)
      by false absent = let nothing = needed id is absent in omega arith

  -- check 5: the values of the items' coverages add to at most 10^14 cents
  values_within : (a b : Bool) → is_loaded need 0 table.Items ≡ a → is_loaded need 0 table.Coverages ≡ b → sum_by (λ row. tiv_of rows.coverages row.coverage_id) rows.items ≤ 100000000000000
  unfolding table_checks
  values_within true true items coverages =
      let keeps : KeepsCheck 5 rows need = keeps-from_valid 5 rows need valid in
      sum_within (λ row. tiv_of rows.coverages row.coverage_id) rows.items (no_row 5 (at_stage 0 table.Items) _ _ keeps.none (both _ _ items coverages))
  values_within true false items coverages =
      let none = nil_from_length rows.coverages (base_empty rows need needed table.Coverages coverages) in
      subst (λ (known : List Coverage). sum_by (λ row. tiv_of known row.coverage_id) rows.items ≤ 100000000000000) (sym none) (omega (arith, worth-nothing rows.items))
  values_within false b items coverages =
      let none = nil_from_length rows.items (base_empty rows need needed table.Items items) in
      subst (λ (list : List Item). sum_by (λ row. tiv_of rows.coverages row.coverage_id) list ≤ 100000000000000) (sym none) (omega arith)

  -- check 10 refuses neither the random numbers nor a programme
  some_none : (place : ℕ) → slice_index_or (empty_refusals rows need) place None ≡ None
  unfolding table_checks
  some_none = let keeps : KeepsCheck 10 rows need = keeps-from_valid 10 rows need valid in each_none (empty_refusals rows need) keeps.none

  -- the checks 18 and 19 refuse nothing where the samples are known
  samples_within : 0 < need.samples → FitsSamples rows need need.samples
  unfolding table_checks programme_checks size_checks
  samples_within known =
      let is : nat_lt 0 need.samples ≡ true = lt-ltb 0 need.samples known in
      let cells : KeepsCheck 18 rows need = keeps-from_valid 18 rows need valid in
      let summaries : KeepsCheck 19 rows need = keeps-from_valid 19 rows need valid in
      fits_samples rows need needed need.samples (subst (λ b. cond b (sample_checks rows need need.samples) None ≡ None) is cells.none) (subst (λ b. cond b (summary_size_check rows need need.samples) None ≡ None) is summaries.none)

  -- check 21: the damage bins times the items are at most 2,000,000
  distributions_within : (a b : Bool) → is_loaded need 0 table.DamageBinDict ≡ a → is_loaded need 0 table.Items ≡ b → length rows.damage_bin_dict * length rows.items ≤ 2000000
  unfolding table_checks programme_checks size_checks
  distributions_within true true bins items =
      let keeps : KeepsCheck 21 rows need = keeps-from_valid 21 rows need valid in
      not_above 2000000 (length rows.damage_bin_dict * length rows.items) (length rows.damage_bin_dict) (no_row 21 (at_stage 0 table.DamageBinDict) _ _ keeps.none (both _ _ bins items))
  distributions_within true false bins items = subst (λ n. length rows.damage_bin_dict * n ≤ 2000000) (sym (base_empty rows need needed table.Items items)) (omega arith)
  distributions_within false b bins items = subst (λ n. n * length rows.items ≤ 2000000) (sym (base_empty rows need needed table.DamageBinDict bins)) (omega arith)

  -- valid tables keep their sizes
  pub keeps_sizes : KeepsSizes rows need
  keeps_sizes = record {
    limits = within_limits;
    values = values_within (is_loaded need 0 table.Items) (is_loaded need 0 table.Coverages) refl refl;
    random = λ loaded. not_empty (length rows.random) (no_row 10 (at_stage 0 table.Random) _ _ (some_none 0) loaded);
    programmes = λ stage below loaded. not_empty (length (programme_of rows stage)) (no_row 10 (at_stage stage table.FmProgramme) _ _ (stage_none (empty_programme rows need) 10 stage (some_none 1) below) loaded);
    samples = samples_within;
    distributions = distributions_within (is_loaded need 0 table.DamageBinDict) (is_loaded need 0 table.Items) refl refl;
  }

  -- ---- keys

  -- check 2 refuses none of its tables
  key_none : (id : TableId) → IsTableId id → key_check rows need id ≡ None
  unfolding table_checks
  key_none = let keeps : KeepsCheck 2 rows need = keeps-from_valid 2 rows need valid in listed_none (key_check rows need) keeps.none

  -- check 3 refuses no output
  output_none : output_check rows need ≡ None
  unfolding table_checks
  output_none = let keeps : KeepsCheck 3 rows need = keeps-from_valid 3 rows need valid in keeps.none

  -- check 2: the keys of the financial tables of the base or of a stage are distinct
  financial_keys : (stage : ℕ) → stage < 10 → AreFinancialKeys (financial_of rows stage)
  financial_keys stage below = record {
    programme = apart_loaded same_pair_equiv _ _ 2 (at_stage stage table.FmProgramme) (is_loaded need stage table.FmProgramme) (stage_empty rows need needed stage below table.FmProgramme (omega arith) (omega arith)) (key_none (at_stage stage table.FmProgramme) (of_stage stage below table.FmProgramme refl));
    policytc = apart_loaded same_triple_equiv _ _ 2 (at_stage stage table.FmPolicytc) (is_loaded need stage table.FmPolicytc) (stage_empty rows need needed stage below table.FmPolicytc (omega arith) (omega arith)) (key_none (at_stage stage table.FmPolicytc) (of_stage stage below table.FmPolicytc refl));
    profile = apart_loaded nat_eq_equiv _ _ 2 (at_stage stage table.FmProfile) (is_loaded need stage table.FmProfile) (stage_empty rows need needed stage below table.FmProfile (omega arith) (omega arith)) (key_none (at_stage stage table.FmProfile) (of_stage stage below table.FmProfile refl));
  }

  -- valid tables have distinct keys
  pub keeps_keys : KeepsKeys rows
  keeps_keys = record {
    events = apart_loaded nat_eq_equiv _ _ 2 (at_stage 0 table.Events) (is_loaded need 0 table.Events) (base_empty rows need needed table.Events) (key_none (at_stage 0 table.Events) (of_base table.Events));
    items = apart_loaded nat_eq_equiv _ _ 2 (at_stage 0 table.Items) (is_loaded need 0 table.Items) (base_empty rows need needed table.Items) (key_none (at_stage 0 table.Items) (of_base table.Items));
    coverages = apart_loaded nat_eq_equiv _ _ 2 (at_stage 0 table.Coverages) (is_loaded need 0 table.Coverages) (base_empty rows need needed table.Coverages) (key_none (at_stage 0 table.Coverages) (of_base table.Coverages));
    footprint_idx = apart_loaded nat_eq_equiv _ _ 2 (at_stage 0 table.FootprintIdx) (is_loaded need 0 table.FootprintIdx) (base_empty rows need needed table.FootprintIdx) (key_none (at_stage 0 table.FootprintIdx) (of_base table.FootprintIdx));
    vulnerability = apart_loaded same_triple_equiv _ _ 2 (at_stage 0 table.Vulnerability) (is_loaded need 0 table.Vulnerability) (base_empty rows need needed table.Vulnerability) (key_none (at_stage 0 table.Vulnerability) (of_base table.Vulnerability));
    outputs = apart_loaded nat_eq_equiv _ _ 2 (at_stage 0 table.FmXref) (is_loaded need 0 table.FmXref) (base_empty rows need needed table.FmXref) (key_none (at_stage 0 table.FmXref) (of_base table.FmXref));
    layers = apart_loaded same_pair_equiv _ _ 3 (at_stage 0 table.FmXref) (is_loaded need 0 table.FmXref) (base_empty rows need needed table.FmXref) output_none;
    item_summaries = apart_loaded same_pair_equiv _ _ 2 (at_stage 0 table.GulSummaryXref) (is_loaded need 0 table.GulSummaryXref) (base_empty rows need needed table.GulSummaryXref) (key_none (at_stage 0 table.GulSummaryXref) (of_base table.GulSummaryXref));
    output_summaries = apart_loaded same_pair_equiv _ _ 2 (at_stage 0 table.FmSummaryXref) (is_loaded need 0 table.FmSummaryXref) (base_empty rows need needed table.FmSummaryXref) (key_none (at_stage 0 table.FmSummaryXref) (of_base table.FmSummaryXref));
    return_periods = apart_loaded nat_eq_equiv _ _ 2 (at_stage 0 table.ReturnPeriods) (is_loaded need 0 table.ReturnPeriods) (base_empty rows need needed table.ReturnPeriods) (key_none (at_stage 0 table.ReturnPeriods) (of_base table.ReturnPeriods));
    financial = financial_keys;
  }

-- No check refuses tables for a need within another for which no check refuses them.
-- The rules: docs/CHECKS.md.
use Rattle.std.specs.Prelude.{◌≡◌, ◌≤◌, ◌<◌, ◌+◌, ◌*◌, ◌&&◌, ◌||◌, ℕ, nat_eq, nat_lt, Bool, true, false, cond, refl, List, [], ◌∷◌, length, map, Option, None}
use Rattle.std.specs.List.{list_any}
use Rattle.std.proofs.Common.{sym, subst, ap, ◌∙◌, arith}
use Rattle.std.proofs.Math.Nat.{mul-le-mul_right}
use Rattle.std.proofs.lemmas.Bool.{and_parts, lt-ltb}
use Rattle.kt_checks.specs.CheckLaws.{both, keeps-from_valid}
use Rattle.kt_checks.specs.Checks.{IsValid, KeepsCheck, KeepsSamples, checks_of, first_refusal, programme_checks, samples_refusal, size_checks, table_checks}
use Rattle.kt_checks.specs.OutputChecks.{has_output, lacks_at, lacks_output, missing_output_check, owing_at}
use Rattle.kt_checks.specs.ProgrammeChecks.{dead_end_at, inputs_of, rootless_at, source_check, target_check, terms_check, unplaced_at}
use Rattle.kt_checks.specs.SummaryChecks.{item_summaries, output_summaries, sample_checks, sample_refusals, summaries_of, summary_size_check, zero_above}
use Rattle.kt_checks.specs.TableChecks.{bad_bin_at, bin_check, damage_size_check, empty_checks, empty_programme, empty_refusals, is_misplaced, limit_check, limit_checks, none_at, period_check, place_check, probability_check, row_limit, row_past, rows_above, value_above_at, value_check}
use Rattle.kt_keys.specs.Climbing.{climbed, next_unit}
use Rattle.kt_keys.specs.FirstRow.{above_at, first_where, repeated_at, unknown_at}
use Rattle.kt_keys.specs.KeyChecks.{key_check, key_checks, key_row, key_row_in, output_check}
use Rattle.kt_keys.specs.Keys.{policytc_of, profile_of, programme_of, same_pair}
use Rattle.kt_keys.specs.NameChecks.{coverage_check, damage_check, has_units, item_summary_check, output_summary_check, output_unit_check, output_units, profile_check, summary_checks}
use Rattle.kt_keys.specs.Refusals.{at_stage, is_loaded, refusal}
use Rattle.kt_keys.specs.Units.{top_layers, top_level, top_targets}
use Rattle.kt_keys.specs.declared.need.Need.{Need}
use Rattle.kt_keys.specs.declared.need.Refusal.{Refusal}
use Rattle.kt_rec.specs.PlaceLaws.{of_base, of_stage, same_count}
use Rattle.kt_rec.specs.Places.{PartOf, list_of, part_in, row_count, table_at}
use Rattle.kt_rec.specs.Rows.{Rows}
use Rattle.kt_rec.specs.TableNames.{IsTableId}
use Rattle.kt_rec.specs.declared.financial.FmPolicytc.{FmPolicytc}
use Rattle.kt_rec.specs.declared.financial.FmProgramme.{FmProgramme}
use Rattle.kt_rec.specs.declared.financial.FmXref.{FmXref}
use Rattle.kt_rec.specs.declared.table.Table.{Table}
use Rattle.kt_rec.specs.declared.table.Table.TheVariants as table
use Rattle.kt_subset.specs.Less.{AreLess, IsLess, first_less, joined_less, known_less, listed_less, one_table, part_less, stages_less, two_tables, weaker, zero_above-less}
use Rattle.kt_subset.specs.SameRows.{HasSame, same_base, same_stage}
use Rattle.kt_subset.specs.SameTables.{SameTable}
use Rattle.kt_subset.specs.Within.{IsWithin}

-- the row that lacks an output is the same by rules that agree on whether outputs are of items
owing_same : (rule same : ℕ) (programme : List FmProgramme) (policytc : List FmPolicytc) (outputs : List FmXref) → nat_eq rule 0 ≡ nat_eq same 0 → owing_at rule programme policytc outputs ≡ owing_at same programme policytc outputs
unfolding owing_at
owing_same rule same programme policytc outputs agree =
    let lacks : ℕ → ℕ → Bool =
    lacks_output (λ unit. list_any (nat_eq unit) (map (λ pair. pair.0) (top_layers programme policytc)))
    (λ pair. list_any (same_pair pair) (top_layers programme policytc)) (has_output outputs) in
    let top : ℕ = top_level programme in
    ap (λ (units : Bool). first_where (λ (row : FmProgramme). cond units (nat_eq row.level_id top && lacks row.to_agg_id row.to_agg_id) (nat_eq row.level_id 1 && lacks_at lacks (climbed (next_unit programme) top 1 row.from_agg_id) row.from_agg_id)) programme) agree

-- whether the tables are loaded that have the layers of the units of the top level, and the outputs
abbrev made : Need → Bool
made need = is_loaded need 0 table.FmProgramme && is_loaded need 0 table.FmPolicytc && is_loaded need 0 table.FmXref

-- a table that is the same has the same first row whose key stands in an earlier row
same_key_row : (t : Table) (stage : ℕ) (rows other : Rows) → SameTable stage t rows other → key_row_in rows stage t ≡ key_row_in other stage t
same_key_row table.Events stage rows other same = ap (key_row table.Events) same
same_key_row t stage rows other same = ap (λ (part : PartOf t). key_row t (list_of t part)) same

-- one of two tests passes
either : (one other one_more other_more : Bool) → (one ≡ true → one_more ≡ true) → (other ≡ true → other_more ≡ true) → (one || other) ≡ true → (one_more || other_more) ≡ true
either true other one_more other_more first second is = subst (λ (b : Bool). (b || other_more) ≡ true) (sym (first refl)) refl
either false other true other_more first second is = refl
either false other false other_more first second is = second is

module _ (rows other : Rows) (small big : Need) (within : IsWithin small big) (has : HasSame small rows other) where
  -- ---- of one table and of two

  -- a table that is needed is needed in the other need
  loads : (stage : ℕ) (t : Table) → is_loaded small stage t ≡ true → is_loaded big stage t ≡ true
  unfolding is_loaded
  loads stage t is = within.tables (at_stage stage t) is

  -- what is kept of a table of the base that is needed
  base : (t : Table) → is_loaded small 0 t ≡ true → SameTable 0 t rows other
  base = same_base small rows other has

  -- a check of one table
  one : (number stage : ℕ) (t : Table) → IsTableId (table_at stage t) → (row : PartOf t → Option ℕ) → IsLess (refusal number (at_stage stage t) (is_loaded small stage t) (row (part_in t stage rows))) (refusal number (at_stage stage t) (is_loaded big stage t) (row (part_in t stage other)))
  one number stage t is row = one_table number (at_stage stage t) (is_loaded small stage t) (is_loaded big stage t) (part_in t stage rows) (part_in t stage other) row (loads stage t) (has (table_at stage t) is)

  -- a check of two tables, which names the first
  two : {X : Type 0} (number stage : ℕ) (t : Table) → IsTableId (table_at stage t) → (at : ℕ) (u : Table) (list others : X) (row : PartOf t → X → Option ℕ) → (is_loaded small at u ≡ true → list ≡ others) → IsLess (refusal number (at_stage stage t) (is_loaded small stage t && is_loaded small at u) (row (part_in t stage rows) list)) (refusal number (at_stage stage t) (is_loaded big stage t && is_loaded big at u) (row (part_in t stage other) others))
  two number stage t is at u list others row same =
      two_tables number (at_stage stage t) (is_loaded small stage t) (is_loaded big stage t) (is_loaded small at u) (is_loaded big at u) (part_in t stage rows) (part_in t stage other) list others row (loads stage t) (loads at u) (has (table_at stage t) is) same

  -- ---- 1 to 10

  limits : IsLess (limit_checks rows small) (limit_checks other big)
  limits = listed_less (limit_check rows small) (limit_check other big) (λ id is. weaker 1 id id (is_loaded small id.stage id.table) (is_loaded big id.stage id.table) (row_past (row_limit id.table) (row_count rows id)) (row_past (row_limit id.table) (row_count other id)) (loads id.stage id.table) (λ needed none. ap (row_past (row_limit id.table)) (same_count id.table id.stage rows other (has id is needed)) ∙ none))

  keys : IsLess (key_checks rows small) (key_checks other big)
  keys = listed_less (key_check rows small) (key_check other big) (λ id is. weaker 2 id id (is_loaded small id.stage id.table) (is_loaded big id.stage id.table) (key_row_in rows id.stage id.table) (key_row_in other id.stage id.table) (loads id.stage id.table) (λ needed none. same_key_row id.table id.stage rows other (has id is needed) ∙ none))

  outputs_distinct : IsLess (output_check rows small) (output_check other big)
  outputs_distinct = one 3 0 table.FmXref (of_base table.FmXref) (λ list. repeated_at same_pair (map (λ row. (row.agg_id, row.layer_id)) list))

  coverages_named : IsLess (coverage_check rows small) (coverage_check other big)
  coverages_named = two 4 0 table.Items (of_base table.Items) 0 table.Coverages rows.coverages other.coverages (λ items coverages. unknown_at nat_eq (map (λ row. row.coverage_id) coverages) (map (λ row. row.coverage_id) items)) (base table.Coverages)

  values : IsLess (value_check rows small) (value_check other big)
  values = two 5 0 table.Items (of_base table.Items) 0 table.Coverages rows.coverages other.coverages (λ items coverages. value_above_at coverages items) (base table.Coverages)

  bins : IsLess (bin_check rows small) (bin_check other big)
  bins = one 6 0 table.DamageBinDict (of_base table.DamageBinDict) bad_bin_at

  bins_named : IsLess (damage_check rows small) (damage_check other big)
  bins_named = two 7 0 table.Vulnerability (of_base table.Vulnerability) 0 table.DamageBinDict rows.damage_bin_dict other.damage_bin_dict (λ damages bins. unknown_at nat_eq (map (λ row. row.bin_index) bins) (map (λ row. row.damage_bin_id) damages)) (base table.DamageBinDict)

  probabilities : IsLess (probability_check rows small) (probability_check other big)
  probabilities = one 8 0 table.Vulnerability (of_base table.Vulnerability) (λ list. above_at same_pair 1001000 (map (λ row. ((row.vulnerability_id, row.intensity_bin_id), row.prob)) list))

  places : IsLess (place_check rows small) (place_check other big)
  places = two 9 0 table.FootprintIdx (of_base table.FootprintIdx) 0 table.Footprint rows.footprint_size other.footprint_size (λ index size. first_where (is_misplaced size) index) (base table.Footprint)

  empty_one : (stage : ℕ) → stage < 10 → IsLess (empty_programme rows small stage) (empty_programme other big stage)
  empty_one stage below = one 10 stage table.FmProgramme (of_stage stage below table.FmProgramme refl) (λ list. none_at (length list))

  empties : IsLess (empty_checks rows small) (empty_checks other big)
  empties =
      first_less (empty_refusals rows small) (empty_refusals other big) (
        one 10 0 table.Random (of_base table.Random) (λ list. none_at (length list)),
        (stages_less (empty_programme rows small) (empty_programme other big) 10 empty_one, tt),
      )

  -- ---- 11 to 16

  -- what the losses of a programme are of
  inputs_same : (base : Bool) → is_loaded small 0 (cond base table.Items table.FmXref) ≡ true → cond base (map (λ row. row.item_id) rows.items) (map (λ row. row.output_id) rows.fm_xref) ≡ cond base (map (λ row. row.item_id) other.items) (map (λ row. row.output_id) other.fm_xref)
  inputs_same true is = ap (λ list. map (λ row. row.item_id) list) (base table.Items is)
  inputs_same false is = ap (λ list. map (λ row. row.output_id) list) (base table.FmXref is)

  sources : (stage : ℕ) → stage < 10 → IsLess (source_check rows small stage) (source_check other big stage)
  sources stage below =
      two 11 stage table.FmProgramme (of_stage stage below table.FmProgramme refl) 0 (cond (nat_eq stage 0) table.Items table.FmXref) (inputs_of rows stage) (inputs_of other stage) (λ programme inputs. rootless_at inputs programme) (inputs_same (nat_eq stage 0))

  targets : (stage : ℕ) → stage < 10 → IsLess (target_check rows small stage) (target_check other big stage)
  targets stage below = one 12 stage table.FmProgramme (of_stage stage below table.FmProgramme refl) dead_end_at

  terms : (stage : ℕ) → stage < 10 → IsLess (terms_check rows small stage) (terms_check other big stage)
  terms stage below =
      two 13 stage table.FmPolicytc (of_stage stage below table.FmPolicytc refl) stage table.FmProgramme (programme_of rows stage) (programme_of other stage) (λ policytc programme. unplaced_at programme policytc) (same_stage small rows other has stage below table.FmProgramme refl)

  profiles_named : (stage : ℕ) → stage < 10 → IsLess (profile_check rows small stage) (profile_check other big stage)
  profiles_named stage below =
      two 14 stage table.FmPolicytc (of_stage stage below table.FmPolicytc refl) stage table.FmProfile (profile_of rows stage) (profile_of other stage)
      (λ policytc profiles. unknown_at nat_eq (map (λ row. row.policytc_id) profiles) (map (λ row. row.policytc_id) policytc)) (same_stage small rows other has stage below table.FmProfile refl)

  -- what outputs are for
  units_same : (units : Bool) → is_loaded small 0 (cond units table.FmProgramme table.Items) ≡ true → cond units (top_targets (programme_of rows 0)) (map (λ row. row.item_id) rows.items) ≡ cond units (top_targets (programme_of other 0)) (map (λ row. row.item_id) other.items)
  units_same true is = ap top_targets (base table.FmProgramme is)
  units_same false is = ap (λ list. map (λ row. row.item_id) list) (base table.Items is)

  units_named : IsLess (output_unit_check rows small) (output_unit_check other big)
  units_named =
      weaker 15 (at_stage 0 table.FmXref) (at_stage 0 table.FmXref) (has_units small) (has_units big)
      (unknown_at nat_eq (output_units rows small.rule) (map (λ row. row.agg_id) rows.fm_xref)) (unknown_at nat_eq (output_units other big.rule) (map (λ row. row.agg_id) other.fm_xref))
      makes (λ is none. finds is ∙ none)
    where
      parts : has_units small ≡ true → (is_loaded small 0 table.FmXref ≡ true) × (is_loaded small 0 (cond (nat_eq small.rule 0) table.FmProgramme table.Items) ≡ true)
      parts is = and_parts (is_loaded small 0 table.FmXref) (is_loaded small 0 (cond (nat_eq small.rule 0) table.FmProgramme table.Items)) is

      makes : has_units small ≡ true → has_units big ≡ true
      makes is =
          both (is_loaded big 0 table.FmXref) (is_loaded big 0 (cond (nat_eq big.rule 0) table.FmProgramme table.Items)) (loads 0 table.FmXref (parts is).0)
          (subst (λ (units : Bool). is_loaded big 0 (cond units table.FmProgramme table.Items) ≡ true) (within.rule (parts is).0) (loads 0 (cond (nat_eq small.rule 0) table.FmProgramme table.Items) (parts is).1))

      finds : has_units small ≡ true → unknown_at nat_eq (output_units rows small.rule) (map (λ row. row.agg_id) rows.fm_xref) ≡ unknown_at nat_eq (output_units other big.rule) (map (λ row. row.agg_id) other.fm_xref)
      finds is =
          ap (λ (known : List ℕ). unknown_at nat_eq known (map (λ row. row.agg_id) rows.fm_xref))
          (units_same (nat_eq small.rule 0) (parts is).1 ∙ ap (λ (units : Bool). cond units (top_targets (programme_of other 0)) (map (λ row. row.item_id) other.items)) (within.rule (parts is).0))
          ∙ ap (λ (list : List FmXref). unknown_at nat_eq (output_units other big.rule) (map (λ row. row.agg_id) list)) (base table.FmXref (parts is).0)

  outputs_owed : IsLess (missing_output_check rows small) (missing_output_check other big)
  outputs_owed =
      weaker 16 (at_stage 0 table.FmProgramme) (at_stage 0 table.FmProgramme) (made small) (made big)
      (owing_at small.rule (programme_of rows 0) (policytc_of rows 0) rows.fm_xref) (owing_at big.rule (programme_of other 0) (policytc_of other 0) other.fm_xref)
      makes (λ is none. finds is ∙ none)
    where
      front : made small ≡ true → ((is_loaded small 0 table.FmProgramme && is_loaded small 0 table.FmPolicytc) ≡ true) × (is_loaded small 0 table.FmXref ≡ true)
      front is = and_parts (is_loaded small 0 table.FmProgramme && is_loaded small 0 table.FmPolicytc) (is_loaded small 0 table.FmXref) is

      parts : made small ≡ true → (is_loaded small 0 table.FmProgramme ≡ true) × (is_loaded small 0 table.FmPolicytc ≡ true)
      parts is = and_parts (is_loaded small 0 table.FmProgramme) (is_loaded small 0 table.FmPolicytc) (front is).0

      makes : made small ≡ true → made big ≡ true
      makes is =
          both (is_loaded big 0 table.FmProgramme && is_loaded big 0 table.FmPolicytc) (is_loaded big 0 table.FmXref)
          (both (is_loaded big 0 table.FmProgramme) (is_loaded big 0 table.FmPolicytc) (loads 0 table.FmProgramme (parts is).0) (loads 0 table.FmPolicytc (parts is).1))
          (loads 0 table.FmXref (front is).1)

      finds : made small ≡ true → owing_at small.rule (programme_of rows 0) (policytc_of rows 0) rows.fm_xref ≡ owing_at big.rule (programme_of other 0) (policytc_of other 0) other.fm_xref
      finds is =
          owing_same small.rule big.rule (programme_of rows 0) (policytc_of rows 0) rows.fm_xref (within.rule (front is).1)
          ∙ (ap (λ (programme : List FmProgramme). owing_at big.rule programme (policytc_of rows 0) rows.fm_xref) (base table.FmProgramme (parts is).0)
          ∙ (ap (λ (policytc : List FmPolicytc). owing_at big.rule (programme_of other 0) policytc rows.fm_xref) (base table.FmPolicytc (parts is).1)
          ∙ ap (λ (outputs : List FmXref). owing_at big.rule (programme_of other 0) (policytc_of other 0) outputs) (base table.FmXref (front is).1)))

  -- ---- 17 to 21

  summaries_named : IsLess (summary_checks rows small) (summary_checks other big)
  summaries_named =
      first_less (item_summary_check rows small ∷ output_summary_check rows small ∷ []) (item_summary_check other big ∷ output_summary_check other big ∷ []) (
        two 17 0 table.GulSummaryXref (of_base table.GulSummaryXref) 0 table.Items rows.items other.items (λ summaries items. unknown_at nat_eq (map (λ row. row.item_id) items) (map (λ row. row.item_id) summaries)) (base table.Items),
        (two 17 0 table.FmSummaryXref (of_base table.FmSummaryXref) 0 table.FmXref rows.fm_xref other.fm_xref (λ summaries outputs. unknown_at nat_eq (map (λ row. row.output_id) outputs) (map (λ row. row.output_id) summaries)) (base table.FmXref), tt),
      )

  sampled : (samples : ℕ) → IsLess (sample_checks rows small samples) (sample_checks other big samples)
  sampled samples =
      first_less (sample_refusals rows small samples) (sample_refusals other big samples) (
        one 18 0 table.Items (of_base table.Items) (λ list. rows_above 2000000 (length list) (samples + 2)),
        (one 18 0 table.FmXref (of_base table.FmXref) (λ list. rows_above 2000000 (length list) (samples + 2)), tt),
      )

  -- there are no more summaries
  fewer : summaries_of rows small ≤ summaries_of other big
  fewer =
      let items : cond (is_loaded small 0 table.GulSummaryXref) (item_summaries rows) 0 ≤ cond (is_loaded big 0 table.GulSummaryXref) (item_summaries other) 0 =
      part_less (is_loaded small 0 table.GulSummaryXref) (is_loaded big 0 table.GulSummaryXref) (item_summaries rows) (item_summaries other) (loads 0 table.GulSummaryXref)
      (λ is. subst (λ list. item_summaries rows ≤ item_summaries (record rows { gulsummaryxref = list })) (base table.GulSummaryXref is) (omega arith)) in
      let outputs : cond (is_loaded small 0 table.FmSummaryXref) (cond small.net 2 1 * output_summaries rows) 0 ≤ cond (is_loaded big 0 table.FmSummaryXref) (cond big.net 2 1 * output_summaries other) 0 =
      part_less (is_loaded small 0 table.FmSummaryXref) (is_loaded big 0 table.FmSummaryXref) (cond small.net 2 1 * output_summaries rows) (cond big.net 2 1 * output_summaries other) (loads 0 table.FmSummaryXref)
      (λ is. subst (λ list. cond small.net 2 1 * output_summaries rows ≤ cond big.net 2 1 * output_summaries (record rows { fmsummaryxref = list })) (base table.FmSummaryXref is) (mul-le-mul_right (output_summaries rows) within.net)) in
      omega (arith, items, outputs)

  summaries_few : (samples : ℕ) → IsLess (summary_size_check rows small samples) (summary_size_check other big samples)
  summaries_few samples =
      weaker 19 (at_stage 0 (cond (is_loaded small 0 table.FmSummaryXref) table.FmSummaryXref table.GulSummaryXref)) (at_stage 0 (cond (is_loaded big 0 table.FmSummaryXref) table.FmSummaryXref table.GulSummaryXref))
      (is_loaded small 0 table.GulSummaryXref || is_loaded small 0 table.FmSummaryXref) (is_loaded big 0 table.GulSummaryXref || is_loaded big 0 table.FmSummaryXref)
      (zero_above 1000000 (summaries_of rows small) (samples + 2)) (zero_above 1000000 (summaries_of other big) (samples + 2))
      (either (is_loaded small 0 table.GulSummaryXref) (is_loaded small 0 table.FmSummaryXref) (is_loaded big 0 table.GulSummaryXref) (is_loaded big 0 table.FmSummaryXref) (loads 0 table.GulSummaryXref) (loads 0 table.FmSummaryXref))
      (λ is none. zero_above-less 1000000 (summaries_of rows small) (summaries_of other big) (samples + 2) fewer none)

  periods : IsLess (period_check rows small) (period_check other big)
  periods = one 20 0 table.Occurrence (of_base table.Occurrence) (λ found. first_where (λ row. nat_lt found.1 row.period_no) found.0)

  damage_sizes : IsLess (damage_size_check rows small) (damage_size_check other big)
  damage_sizes = two 21 0 table.DamageBinDict (of_base table.DamageBinDict) 0 table.Items rows.items other.items (λ bins items. rows_above 2000000 (length bins) (length items)) (base table.Items)

  -- ---- all checks

  tables_less : AreLess (table_checks rows small) (table_checks other big)
  unfolding table_checks
  tables_less = (limits, (keys, (outputs_distinct, (coverages_named, (values, (bins, (bins_named, (probabilities, (places, (empties, tt))))))))))

  programmes_less : AreLess (programme_checks rows small) (programme_checks other big)
  unfolding programme_checks
  programmes_less = (
    stages_less (source_check rows small) (source_check other big) 10 sources,
    (
      stages_less (target_check rows small) (target_check other big) 10 targets,
      (
        stages_less (terms_check rows small) (terms_check other big) 10 terms,
        (
          stages_less (profile_check rows small) (profile_check other big) 10 profiles_named,
          (units_named, (outputs_owed, tt)),
        ),
      ),
    ),
  )

  sizes_less : AreLess (size_checks rows small) (size_checks other big)
  unfolding size_checks
  sizes_less = (
    summaries_named,
    (
      known_less (sample_checks rows small small.samples) (sample_checks other big big.samples) small.samples big.samples within.samples (λ same. subst (λ (n : ℕ). IsLess (sample_checks rows small n) (sample_checks other big big.samples)) (sym same) (sampled big.samples)),
      (
        known_less (summary_size_check rows small small.samples) (summary_size_check other big big.samples) small.samples big.samples within.samples (λ same. subst (λ (n : ℕ). IsLess (summary_size_check rows small n) (summary_size_check other big big.samples)) (sym same) (summaries_few big.samples)),
        (periods, (damage_sizes, tt)),
      ),
    ),
  )

  -- no check refuses the tables for the smaller need, where none does for the other
  pub valid_within : IsValid other big → IsValid rows small
  unfolding first_refusal
  valid_within valid = record {
    none = first_less (checks_of rows small) (checks_of other big) (joined_less (table_checks rows small) (table_checks other big) _ _ tables_less (joined_less (programme_checks rows small) (programme_checks other big) (size_checks rows small) (size_checks other big) programmes_less sizes_less)) valid.none;
  }

  -- nor do the checks of a number of samples, at the header of a stream
  pub samples_within : (samples : ℕ) → KeepsSamples other big samples → KeepsSamples rows small samples
  unfolding samples_refusal
  samples_within samples keeps = record {
    none = first_less (sample_checks rows small samples ∷ summary_size_check rows small samples ∷ []) (sample_checks other big samples ∷ summary_size_check other big samples ∷ []) (sampled samples, (summaries_few samples, tt)) keeps.none;
  }

-- what no check refuses for a number of samples, the checks of these samples do not refuse
pub samples_kept : (rows : Rows) (need : Need) → 1 ≤ need.samples → IsValid rows need → KeepsSamples rows need need.samples
unfolding samples_refusal table_checks programme_checks size_checks
samples_kept rows need some valid =
    let eighteen : KeepsCheck 18 rows need = keeps-from_valid 18 rows need valid in
    let nineteen : KeepsCheck 19 rows need = keeps-from_valid 19 rows need valid in
    record { none = together (known (sample_checks rows need need.samples) eighteen.none) (known (summary_size_check rows need need.samples) nineteen.none) }
  where
    known : (found : Option Refusal) → cond (nat_lt 0 need.samples) found None ≡ None → found ≡ None
    known found none = subst (λ (b : Bool). cond b found None ≡ None) (lt-ltb 0 need.samples (omega (arith, some))) none

    together : (sample_checks rows need need.samples ≡ None) → (summary_size_check rows need need.samples ≡ None) → samples_refusal rows need need.samples ≡ None
    together cells summaries = rw (cells, summaries) refl

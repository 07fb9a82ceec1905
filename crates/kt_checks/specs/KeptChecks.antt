-- What each check says of the rows that it does not refuse, in the words in which it is used. A table that is not needed has
-- no row, so a fact of all its rows needs no premise that it is loaded.
-- The rules: docs/CHECKS.md.
use Rattle.std.specs.Prelude.{◌≡◌, ℕ, ◌≤◌, ◌<◌, ◌+◌, ◌-◌, ◌*◌, nat_eq, true, false, cond, List, map, length, Some, All}
use Rattle.std.specs.List.{IsDistinct, filter, list_any, sum_by}
use Rattle.kt_rec.specs.declared.financial.FmPolicytc.{FmPolicytc}
use Rattle.kt_rec.specs.declared.financial.FmProgramme.{FmProgramme}
use Rattle.kt_rec.specs.declared.table.Table.TheVariants as table
use Rattle.kt_rec.specs.declared.table.TableId.{TableId}
use Rattle.kt_rec.specs.Places.{row_count}
use Rattle.kt_rec.specs.Rows.{FinancialRows, Rows}
use Rattle.kt_rec.specs.TableNames.{IsTableId}
use Rattle.kt_keys.specs.declared.need.Need.{Need}
use Rattle.kt_keys.specs.Keys.{financial_of, programme_of, policytc_of, profile_of, same_pair, same_triple}
use Rattle.kt_keys.specs.NameChecks.{output_units}
use Rattle.kt_keys.specs.Refusals.{is_loaded}
use Rattle.kt_keys.specs.Units.{top_level, top_targets, is_source, is_target}
use Rattle.kt_keys.specs.Climbing.{climbed, next_unit}
use Rattle.kt_checks.specs.OutputChecks.{has_output, has_top_layer}
use Rattle.kt_checks.specs.ProgrammeChecks.{inputs_of}
use Rattle.kt_checks.specs.SummaryChecks.{summaries_of}
use Rattle.kt_checks.specs.TableChecks.{IsPlaced, row_limit, tiv_of}

-- ---- sizes

-- 18 and 19: so many samples make at most 2,000,000 losses of an event of items, and as many of outputs, and at most 1,000,000
-- of summaries
pub record FitsSamples (rows : Rows) (need : Need) (samples : ℕ) : Type 0 where
  pub items : length rows.items * (samples + 2) ≤ 2000000
  pub outputs : length rows.fm_xref * (samples + 2) ≤ 2000000
  pub summaries : summaries_of rows need * (samples + 2) ≤ 1000000

-- 1: no table has more rows than its limit; 5: the values of the items' coverages, one for each item, add to at most 10^14
-- cents; 10: there are random numbers where they are loaded, and a loaded programme has a row; 18 and 19, where the samples
-- are known; 21: the damage bins times the items are at most 2,000,000
pub record KeepsSizes (rows : Rows) (need : Need) : Type 0 where
  pub limits : (id : TableId) → IsTableId id → row_count rows id ≤ row_limit id.table
  pub values : sum_by (λ row. tiv_of rows.coverages row.coverage_id) rows.items ≤ 100000000000000
  pub random : is_loaded need 0 table.Random ≡ true → 1 ≤ length rows.random
  pub programmes : (stage : ℕ) → stage < 10 → is_loaded need stage table.FmProgramme ≡ true → 1 ≤ length (programme_of rows stage)
  pub samples : 0 < need.samples → FitsSamples rows need need.samples
  pub distributions : length rows.damage_bin_dict * length rows.items ≤ 2000000

-- ---- keys

-- 2: a programme takes the losses of a unit at a level once, a layer of a unit at a level has terms once, and profiles are distinct
pub record AreFinancialKeys (rows : FinancialRows) : Type 0 where
  pub programme : IsDistinct same_pair (map (λ row. (row.from_agg_id, row.level_id)) rows.programme)
  pub policytc : IsDistinct same_triple (map (λ row. (row.layer_id, row.level_id, row.agg_id)) rows.policytc)
  pub profile : IsDistinct nat_eq (map (λ row. row.policytc_id) rows.profile)

-- 2: the keys of each table are distinct; 3: so are the units and layers of outputs
pub record KeepsKeys (rows : Rows) : Type 0 where
  pub events : IsDistinct nat_eq (map (λ row. row.event_id) rows.events)
  pub items : IsDistinct nat_eq (map (λ row. row.item_id) rows.items)
  pub coverages : IsDistinct nat_eq (map (λ row. row.coverage_id) rows.coverages)
  pub footprint_idx : IsDistinct nat_eq (map (λ row. row.event_id) rows.footprint_idx)
  pub vulnerability : IsDistinct same_triple (map (λ row. (row.vulnerability_id, row.intensity_bin_id, row.damage_bin_id)) rows.vulnerability)
  pub outputs : IsDistinct nat_eq (map (λ row. row.output_id) rows.fm_xref)
  pub layers : IsDistinct same_pair (map (λ row. (row.agg_id, row.layer_id)) rows.fm_xref)
  pub item_summaries : IsDistinct same_pair (map (λ row. (row.item_id, row.summaryset_id)) rows.gulsummaryxref)
  pub output_summaries : IsDistinct same_pair (map (λ row. (row.output_id, row.summaryset_id)) rows.fmsummaryxref)
  pub return_periods : IsDistinct nat_eq (map (λ row. row.return_period) rows.returnperiods)
  pub financial : (stage : ℕ) → stage < 10 → AreFinancialKeys (financial_of rows stage)

-- ---- names

-- what rows name is there, where the table that has it is loaded: 4 the coverage of an item, 7 the damage bin of a row of
-- vulnerability, 9 the records of an event of the index, 14 the profile of terms, 15 the item that an output is for, or by
-- rule 0 the unit of the top level, 17 the item or the output of a summary
pub record KeepsNames (rows : Rows) (need : Need) : Type 0 where
  pub coverages : is_loaded need 0 table.Coverages ≡ true → All (λ row. list_any (nat_eq row.coverage_id) (map (λ x. x.coverage_id) rows.coverages) ≡ true) rows.items
  pub damage_bins : is_loaded need 0 table.DamageBinDict ≡ true → All (λ row. list_any (nat_eq row.damage_bin_id) (map (λ x. x.bin_index) rows.damage_bin_dict) ≡ true) rows.vulnerability
  pub places : is_loaded need 0 table.Footprint ≡ true → All (IsPlaced rows.footprint_size) rows.footprint_idx
  pub profiles : (stage : ℕ) → stage < 10 → is_loaded need stage table.FmProfile ≡ true → All (λ row. list_any (nat_eq row.policytc_id) (map (λ x. x.policytc_id) (profile_of rows stage)) ≡ true) (policytc_of rows stage)
  pub output_units : is_loaded need 0 (cond (nat_eq need.rule 0) table.FmProgramme table.Items) ≡ true → All (λ row. list_any (nat_eq row.agg_id) (output_units rows need.rule) ≡ true) rows.fm_xref
  pub items : is_loaded need 0 table.Items ≡ true → All (λ row. list_any (nat_eq row.item_id) (map (λ x. x.item_id) rows.items) ≡ true) rows.gulsummaryxref
  pub outputs : is_loaded need 0 table.FmXref ≡ true → All (λ row. list_any (nat_eq row.output_id) (map (λ x. x.output_id) rows.fm_xref) ≡ true) rows.fmsummaryxref

-- ---- programmes

-- the ids whose losses a programme takes
abbrev pub taken_ids : List FmProgramme → List ℕ
taken_ids programme = map (λ row. row.from_agg_id) (filter (λ row. nat_eq row.level_id 1) programme)

-- below the top level, what a row puts losses into is taken from at the next level
abbrev pub GoesOn : List FmProgramme → FmProgramme → Type 0
GoesOn programme row = row.level_id < top_level programme → is_source programme (row.level_id + 1, row.to_agg_id) ≡ true

-- the losses of an id come to a unit of the top level
pub record ComesToTop (programme : List FmProgramme) (id : ℕ) : Type 0 where
  pub unit : ℕ
  pub climbs : climbed (next_unit programme) (top_level programme) 1 id ≡ Some unit
  pub is_top : list_any (nat_eq unit) (top_targets programme) ≡ true

-- terms are of a unit of their level, which is at most the top level; below the top level their layer is 1
pub record HasPlace (programme : List FmProgramme) (row : FmPolicytc) : Type 0 where
  pub level : row.level_id ≤ top_level programme
  pub unit : is_target programme (row.level_id, row.agg_id) ≡ true
  pub layer : row.level_id < top_level programme → row.layer_id ≡ 1

-- the programme of the base, at 0, or of a stage is a tree: 11 at level 1 it takes the losses of items, or in a stage of
-- outputs, and above it those of units of the level below; 12 below the top level losses go on, so that those of each id come
-- to the top level; 13 terms have a place
pub record KeepsProgramme (rows : Rows) (need : Need) (stage : ℕ) : Type 0 where
  pub first : is_loaded need 0 (cond (nat_eq stage 0) table.Items table.FmXref) ≡ true → All (λ row. row.level_id ≡ 1 → list_any (nat_eq row.from_agg_id) (inputs_of rows stage) ≡ true) (programme_of rows stage)
  pub above : is_loaded need 0 (cond (nat_eq stage 0) table.Items table.FmXref) ≡ true → All (λ row. nat_eq row.level_id 1 ≡ false → is_target (programme_of rows stage) (row.level_id - 1, row.from_agg_id) ≡ true) (programme_of rows stage)
  pub further : All (GoesOn (programme_of rows stage)) (programme_of rows stage)
  pub climbs : (id : ℕ) → list_any (nat_eq id) (taken_ids (programme_of rows stage)) ≡ true → ComesToTop (programme_of rows stage) id
  pub terms : is_loaded need stage table.FmProgramme ≡ true → All (HasPlace (programme_of rows stage)) (policytc_of rows stage)

-- ---- outputs

-- 16: an output stands for each layer. By rules 1 and 2 each item whose losses the base's programme takes has one for every layer
-- of the unit of the top level that they come to, by rule 0 each unit of the top level for every layer of its own
pub record KeepsOutputs (rows : Rows) (rule : ℕ) : Type 0 where
  pub of_items : nat_eq rule 0 ≡ false → (item unit layer : ℕ) → list_any (nat_eq item) (taken_ids (programme_of rows 0)) ≡ true → climbed (next_unit (programme_of rows 0)) (top_level (programme_of rows 0)) 1 item ≡ Some unit → has_top_layer (programme_of rows 0) (policytc_of rows 0) unit layer ≡ true → has_output rows.fm_xref (item, layer) ≡ true
  pub of_units : nat_eq rule 0 ≡ true → (unit layer : ℕ) → list_any (nat_eq unit) (top_targets (programme_of rows 0)) ≡ true → has_top_layer (programme_of rows 0) (policytc_of rows 0) unit layer ≡ true → has_output rows.fm_xref (unit, layer) ≡ true

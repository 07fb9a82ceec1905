-- The checks of single tables, of what items, coverages and vulnerabilities name, and of the sizes of tables.
-- The rules: docs/CHECKS.md, "Sizes", "Insured values", "Damage bins", "Probabilities of vulnerabilities", "Places in
-- the footprint".
use Rattle.std.specs.Prelude.{◌≡◌, ◌≤◌, ℕ, ◌+◌, ◌-◌, ◌*◌, ◌%◌, ◌&&◌, ◌||◌, nat_eq, nat_lt, not, Bool, cond, List, [], ◌∷◌, ◌++◌, map, length, Option, Some, None, unwrap_or}
use Rattle.std.specs.List.{sum_by}
use Rattle.std.specs.Map.{lookup}
use Rattle.kt_rec.specs.declared.exposure.Item.{Item}
use Rattle.kt_rec.specs.declared.exposure.Coverage.{Coverage}
use Rattle.kt_rec.specs.declared.hazard.DamageBin.{DamageBin}
use Rattle.kt_rec.specs.declared.hazard.FootprintIdx.{FootprintIdx}
use Rattle.kt_rec.specs.declared.table.Table.{Table}
use Rattle.kt_rec.specs.declared.table.Table.TheVariants.{Events, Items, Coverages, Footprint, FootprintIdx as TheFootprintIdx, Vulnerability as TheVulnerability, DamageBinDict, Random, FmProgramme, FmPolicytc, FmProfile, FmXref, GulSummaryXref, FmSummaryXref, Occurrence as TheOccurrence, ReturnPeriods}
use Rattle.kt_rec.specs.declared.table.TableId.{TableId}
use Rattle.kt_rec.specs.LoadOrder.{load_order}
use Rattle.kt_rec.specs.Places.{row_count}
use Rattle.kt_rec.specs.Rows.{Rows}
use Rattle.kt_keys.specs.declared.need.Need.{Need}
use Rattle.kt_keys.specs.declared.need.Refusal.{Refusal}
use Rattle.kt_keys.specs.FirstRow.{first_where, first_refused, above_at}
use Rattle.kt_keys.specs.Refusals.{at_stage, is_loaded, refusal, first_of, over_stages}
use Rattle.kt_keys.specs.Keys.{programme_of, same_pair}

-- the row behind the last that a table may have
abbrev pub row_past : ℕ → ℕ → Option ℕ
row_past most rows = cond (nat_lt most rows) (Some (most + 1)) None

-- the most rows that a table may have; of the footprint no row is kept
abbrev pub row_limit : Table → ℕ
row_limit Events = 1000000
row_limit Items = 100000
row_limit Coverages = 100000
row_limit Footprint = 0
row_limit TheFootprintIdx = 1000000
row_limit TheVulnerability = 10000000
row_limit DamageBinDict = 1000
row_limit Random = 10000000
row_limit FmProgramme = 1200000
row_limit FmPolicytc = 1200000
row_limit FmProfile = 1000000
row_limit FmXref = 100000
row_limit GulSummaryXref = 900000
row_limit FmSummaryXref = 900000
row_limit TheOccurrence = 1000000
row_limit ReturnPeriods = 1000

-- check 1 of one table: it has more rows than its limit
abbrev pub limit_check : Rows → Need → TableId → Option Refusal
limit_check rows need id = refusal 1 id (is_loaded need id.stage id.table) (row_past (row_limit id.table) (row_count rows id))

-- check 1: a table has more rows than its limit
abbrev pub limit_checks : Rows → Need → Option Refusal
limit_checks rows need = first_of (map (limit_check rows need) load_order)

-- the total insured value of a coverage in cents, 0 where there is no such coverage
abbrev pub tiv_of : List Coverage → ℕ → ℕ
tiv_of coverages id = unwrap_or (lookup (nat_eq id) (map (λ row. (row.coverage_id, row.tiv)) coverages)) 0

-- the first row at which the values of the rows so far add to more than 10^14 cents
abbrev pub sum_above_at : {A : Type 0} → (A → ℕ) → List A → Option ℕ
sum_above_at value rows = first_refused (λ earlier row. nat_lt 100000000000000 (sum_by value (earlier ++ row ∷ []))) rows

-- the first item at which the values of the items' coverages so far, one for each item, add to more than 10^14 cents
abbrev pub value_above_at : List Coverage → List Item → Option ℕ
value_above_at coverages items = sum_above_at (λ row. tiv_of coverages row.coverage_id) items

-- check 5: the insured values of the items up to a row add to more than 10^14 cents
abbrev pub value_check : Rows → Need → Option Refusal
value_check rows need = refusal 5 (at_stage 0 Items) (is_loaded need 0 Items && is_loaded need 0 Coverages) (value_above_at rows.coverages rows.items)

-- the first damage bin whose index is not its row's number, or which begins above its end
abbrev pub bad_bin_at : List DamageBin → Option ℕ
bad_bin_at bins = first_refused (λ earlier bin. not (nat_eq bin.bin_index (length earlier + 1)) || nat_lt bin.bin_to bin.bin_from) bins

-- check 6: a damage bin is out of order or begins above its end
abbrev pub bin_check : Rows → Need → Option Refusal
bin_check rows need = refusal 6 (at_stage 0 DamageBinDict) (is_loaded need 0 DamageBinDict) (bad_bin_at rows.damage_bin_dict)

-- check 8: the probabilities of a vulnerability at an intensity add to more than 1,001,000 ppm up to a row
abbrev pub probability_check : Rows → Need → Option Refusal
probability_check rows need = refusal 8 (at_stage 0 TheVulnerability) (is_loaded need 0 TheVulnerability) (above_at same_pair 1001000 (map (λ row. ((row.vulnerability_id, row.intensity_bin_id), row.prob)) rows.vulnerability))

-- whether the records of an event do not lie in the footprint file as whole records, or are too many
abbrev pub is_misplaced : ℕ → FootprintIdx → Bool
is_misplaced file row =
    nat_lt row.offset 16 || not (nat_eq ((row.offset - 16) % 12) 0) || not (nat_eq (row.size % 12) 0) || nat_lt 1200000 row.size || nat_lt file (row.offset + row.size)

-- the records of an event lie in a footprint file of so many bytes as whole records, and are not too many
pub record IsPlaced (bytes : ℕ) (row : FootprintIdx) : Type 0 where
  pub behind_header : 16 ≤ row.offset
  pub whole_place : (row.offset - 16) % 12 ≡ 0
  pub whole_size : row.size % 12 ≡ 0
  pub few : row.size ≤ 1200000
  pub within : row.offset + row.size ≤ bytes

-- check 9: the records of an event do not lie in the footprint file as whole records, or are too many
abbrev pub place_check : Rows → Need → Option Refusal
place_check rows need = refusal 9 (at_stage 0 TheFootprintIdx) (is_loaded need 0 TheFootprintIdx && is_loaded need 0 Footprint) (first_where (is_misplaced rows.footprint_size) rows.footprint_idx)

-- row 0, where a table has no row
abbrev pub none_at : ℕ → Option ℕ
none_at rows = cond (nat_eq rows 0) (Some 0) None

-- check 10 of the programme of the base or of a stage: it has no row
abbrev pub empty_programme : Rows → Need → ℕ → Option Refusal
empty_programme rows need stage = refusal 10 (at_stage stage FmProgramme) (is_loaded need stage FmProgramme) (none_at (length (programme_of rows stage)))

-- what check 10 refuses: there is no random number, or a programme has no row
abbrev pub empty_refusals : Rows → Need → List (Option Refusal)
empty_refusals rows need =
    refusal 10 (at_stage 0 Random) (is_loaded need 0 Random) (none_at (length rows.random))
    ∷ over_stages (empty_programme rows need) 10
    ∷ []

-- check 10: a table that must have rows has none
abbrev pub empty_checks : Rows → Need → Option Refusal
empty_checks rows need = first_of (empty_refusals rows need)

-- check 20: a period is above the number of periods
abbrev pub period_check : Rows → Need → Option Refusal
period_check rows need = refusal 20 (at_stage 0 TheOccurrence) (is_loaded need 0 TheOccurrence) (first_where (λ row. nat_lt rows.periods row.period_no) rows.occurrence)

-- the number of rows, where there are too many for what each brings
abbrev pub rows_above : ℕ → ℕ → ℕ → Option ℕ
rows_above most rows each = cond (nat_lt most (rows * each)) (Some rows) None

-- check 21: the damage bins times the items are above 2,000,000
abbrev pub damage_size_check : Rows → Need → Option Refusal
damage_size_check rows need = refusal 21 (at_stage 0 DamageBinDict) (is_loaded need 0 DamageBinDict && is_loaded need 0 Items) (rows_above 2000000 (length rows.damage_bin_dict) (length rows.items))

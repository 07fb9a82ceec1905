-- The checks of keys that stand in an earlier row of their table.
-- The rules: docs/CHECKS.md, "Keys", "Outputs of a layer".
use Rattle.std.specs.Prelude.{ℕ, nat_eq, List, map, Option, None}
use Rattle.kt_rec.specs.LoadOrder.{load_order}
use Rattle.kt_rec.specs.Places.{RowOf, rows_in}
use Rattle.kt_rec.specs.Rows.{Rows}
use Rattle.kt_rec.specs.declared.table.Table.{Table}
use Rattle.kt_rec.specs.declared.table.Table.TheVariants as table
use Rattle.kt_rec.specs.declared.table.TableId.{TableId}
use Rattle.kt_keys.specs.declared.need.Need.{Need}
use Rattle.kt_keys.specs.declared.need.Refusal.{Refusal}
use Rattle.kt_keys.specs.FirstRow.{repeated_at}
use Rattle.kt_keys.specs.Refusals.{at_stage, is_loaded, refusal, first_of}
use Rattle.kt_keys.specs.Keys.{same_pair, same_triple}

-- the first row of a table whose key stands in an earlier row; four tables have no key
abbrev pub key_row : (t : Table) → List (RowOf t) → Option ℕ
key_row table.Events rows = repeated_at nat_eq (map (λ row. row.event_id) rows)
key_row table.Items rows = repeated_at nat_eq (map (λ row. row.item_id) rows)
key_row table.Coverages rows = repeated_at nat_eq (map (λ row. row.coverage_id) rows)
key_row table.FootprintIdx rows = repeated_at nat_eq (map (λ row. row.event_id) rows)
key_row table.Vulnerability rows = repeated_at same_triple (map (λ row. (row.vulnerability_id, row.intensity_bin_id, row.damage_bin_id)) rows)
key_row table.FmProgramme rows = repeated_at same_pair (map (λ row. (row.from_agg_id, row.level_id)) rows)
key_row table.FmPolicytc rows = repeated_at same_triple (map (λ row. (row.layer_id, row.level_id, row.agg_id)) rows)
key_row table.FmProfile rows = repeated_at nat_eq (map (λ row. row.policytc_id) rows)
key_row table.FmXref rows = repeated_at nat_eq (map (λ row. row.output_id) rows)
key_row table.GulSummaryXref rows = repeated_at same_pair (map (λ row. (row.item_id, row.summaryset_id)) rows)
key_row table.FmSummaryXref rows = repeated_at same_pair (map (λ row. (row.output_id, row.summaryset_id)) rows)
key_row table.ReturnPeriods rows = repeated_at nat_eq (map (λ row. row.return_period) rows)
key_row t rows = None

-- that row of a table of the base, at 0, or of a stage
abbrev pub key_row_in : Rows → ℕ → Table → Option ℕ
key_row_in rows stage table.Events = key_row table.Events (rows_in table.Events stage rows)
key_row_in rows stage t = key_row t (rows_in t stage rows)

-- check 2 of one table: the key of a row stands in an earlier row
abbrev pub key_check : Rows → Need → TableId → Option Refusal
key_check rows need id = refusal 2 id (is_loaded need id.stage id.table) (key_row_in rows id.stage id.table)

-- check 2: the key of a row stands in an earlier row of its table
abbrev pub key_checks : Rows → Need → Option Refusal
key_checks rows need = first_of (map (key_check rows need) load_order)

-- check 3: the unit and layer of an output stand in an earlier row
abbrev pub output_check : Rows → Need → Option Refusal
output_check rows need = refusal 3 (at_stage 0 table.FmXref) (is_loaded need 0 table.FmXref) (repeated_at same_pair (map (λ row. (row.agg_id, row.layer_id)) rows.fm_xref))

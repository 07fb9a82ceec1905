-- The checks of the outputs that items, or units of the top level, owe.
-- The rule: docs/CHECKS.md, "Outputs for every layer".
use Rattle.std.specs.Prelude.{◌≡◌, ℕ, ◌+◌, ◌<◌, ◌≤◌, ◌&&◌, ◌||◌, nat_eq, not, Bool, false, cond, List, map, suc, zero, Option, Some, None}
use Rattle.std.specs.List.{list_any}
use Rattle.kt_rec.specs.declared.financial.FmProgramme.{FmProgramme}
use Rattle.kt_rec.specs.declared.financial.FmPolicytc.{FmPolicytc}
use Rattle.kt_rec.specs.declared.financial.FmXref.{FmXref}
use Rattle.kt_rec.specs.declared.table.Table.TheVariants.{FmProgramme as TheProgramme, FmPolicytc as ThePolicytc, FmXref as TheXref}
use Rattle.kt_rec.specs.Rows.{Rows}
use Rattle.kt_keys.specs.declared.need.Need.{Need}
use Rattle.kt_keys.specs.declared.need.Refusal.{Refusal}
use Rattle.kt_keys.specs.Climbing.{climbed, next_unit}
use Rattle.kt_keys.specs.FirstRow.{first_where}
use Rattle.kt_keys.specs.Refusals.{at_stage, is_loaded, refusal}
use Rattle.kt_keys.specs.Keys.{programme_of, policytc_of, same_pair}
use Rattle.kt_keys.specs.UnitTable.{has_unit}
use Rattle.kt_keys.specs.declared.unit_table.UnitTable.{UnitTable}
use Rattle.kt_keys.specs.Units.{top_level, top_layers}

-- whether one of the layers from 1 to a last one passes a test
unfoldable pub some_layer : (ℕ → Bool) → ℕ → Bool
some_layer test zero = false
some_layer test (suc last) = some_layer test last || test (last + 1)

-- whether a unit of the top level has a layer by its terms; one without terms has layer 1
abbrev pub has_layer : (ℕ → Bool) → (ℕ × ℕ → Bool) → ℕ → ℕ → Bool
has_layer has_terms is_layer unit layer = cond (has_terms unit) (is_layer (unit, layer)) (nat_eq layer 1)

-- no unit has a layer behind a last one, up to the 50th
pub record EndsAt (is_layer : ℕ × ℕ → Bool) (last : ℕ) : Type 0 where
  pub some : 1 ≤ last
  pub few : last ≤ 50
  pub none : (unit layer : ℕ) → last < layer → layer ≤ 50 → is_layer (unit, layer) ≡ false

-- whether a table of outputs by their layers has one for a unit and a layer
abbrev pub has_owner : UnitTable ℕ → ℕ × ℕ → Bool
has_owner owners pair = has_unit owners (pair.1, pair.0)

-- whether for some layer, 1 to 50, of a unit of the top level its owner has no output
abbrev pub lacks_output : (ℕ → Bool) → (ℕ × ℕ → Bool) → (ℕ × ℕ → Bool) → ℕ → ℕ → Bool
lacks_output has_terms is_layer is_output unit owner = some_layer (λ layer. has_layer has_terms is_layer unit layer && not (is_output (owner, layer))) 50

-- whether an item lacks an output for some layer of the unit that its losses come to; one whose losses come to none owes none
abbrev pub lacks_at : (ℕ → ℕ → Bool) → Option ℕ → ℕ → Bool
lacks_at lacks None item = false
lacks_at lacks (Some unit) item = lacks unit item

-- whether the item of a row of level 1, or by rule 0 the unit of a row of the top level, lacks an output
abbrev pub owes_output : ℕ → ℕ → (ℕ × ℕ → Option ℕ) → (ℕ → ℕ → Bool) → FmProgramme → Bool
owes_output rule top next lacks row = cond (nat_eq rule 0) (nat_eq row.level_id top && lacks row.to_agg_id row.to_agg_id) (nat_eq row.level_id 1 && lacks_at lacks (climbed next top 1 row.from_agg_id) row.from_agg_id)

-- whether a unit of the top level has a layer: that of a row of its terms; one without terms has layer 1
abbrev pub has_top_layer : List FmProgramme → List FmPolicytc → ℕ → ℕ → Bool
has_top_layer programme policytc =
    has_layer (λ unit. list_any (nat_eq unit) (map (λ pair. pair.0) (top_layers programme policytc))) (λ pair. list_any (same_pair pair) (top_layers programme policytc))

-- whether there is an output for a unit, or an item, and a layer
abbrev pub has_output : List FmXref → ℕ × ℕ → Bool
has_output outputs pair = list_any (same_pair pair) (map (λ row. (row.agg_id, row.layer_id)) outputs)

-- the first row of a programme that lacks an output, by a rule
unfoldable pub owing_at : ℕ → List FmProgramme → List FmPolicytc → List FmXref → Option ℕ
owing_at rule programme policytc outputs =
    first_where (owes_output rule (top_level programme) (next_unit programme) (lacks_output
    (λ unit. list_any (nat_eq unit) (map (λ pair. pair.0) (top_layers programme policytc)))
    (λ pair. list_any (same_pair pair) (top_layers programme policytc))
    (has_output outputs))) programme

-- check 16: an item, or by rule 0 a unit of the top level, lacks an output for some layer
abbrev pub missing_output_check : Rows → Need → Option Refusal
missing_output_check rows need =
    refusal 16 (at_stage 0 TheProgramme) (is_loaded need 0 TheProgramme && is_loaded need 0 ThePolicytc && is_loaded need 0 TheXref) (owing_at need.rule (programme_of rows 0) (policytc_of rows 0) rows.fm_xref)

-- The checks of programmes and of policy terms, over the base and the reinsurance stages.
-- The rules: docs/CHECKS.md, "Where losses come from", "Where losses go", "The place of terms".
use Rattle.std.specs.Prelude.{ℕ, ◌+◌, ◌-◌, ◌&&◌, ◌||◌, nat_eq, nat_lt, not, Bool, cond, List, map, Option}
use Rattle.std.specs.List.{list_any}
use Rattle.kt_rec.specs.declared.financial.FmProgramme.{FmProgramme}
use Rattle.kt_rec.specs.declared.financial.FmPolicytc.{FmPolicytc}
use Rattle.kt_rec.specs.declared.table.Table.TheVariants.{Items, FmProgramme as TheProgramme, FmPolicytc as ThePolicytc, FmXref as TheXref}
use Rattle.kt_rec.specs.Rows.{Rows}
use Rattle.kt_keys.specs.declared.need.Need.{Need}
use Rattle.kt_keys.specs.declared.need.Refusal.{Refusal}
use Rattle.kt_keys.specs.FirstRow.{first_where}
use Rattle.kt_keys.specs.Refusals.{at_stage, is_loaded, refusal}
use Rattle.kt_keys.specs.Keys.{programme_of, policytc_of}
use Rattle.kt_keys.specs.Units.{top_level, is_source, is_target}

-- what the losses of a programme are of: items for the base, and the base's outputs for a stage
abbrev pub inputs_of : Rows → ℕ → List ℕ
inputs_of rows stage = cond (nat_eq stage 0) (map (λ row. row.item_id) rows.items) (map (λ row. row.output_id) rows.fm_xref)

-- whether a programme is loaded, and the table that its losses are of
abbrev pub has_sources : Need → ℕ → Bool
has_sources need stage = is_loaded need stage TheProgramme && is_loaded need 0 (cond (nat_eq stage 0) Items TheXref)

-- whether a row takes, at level 1, from what is no input, or above it from no unit of the level below
abbrev pub is_rootless : (ℕ → Bool) → (ℕ × ℕ → Bool) → FmProgramme → Bool
is_rootless is_input is_unit row = cond (nat_eq row.level_id 1) (not (is_input row.from_agg_id)) (not (is_unit (row.level_id - 1, row.from_agg_id)))

-- the first row of a programme that takes losses from what has none
abbrev pub rootless_at : List ℕ → List FmProgramme → Option ℕ
rootless_at inputs programme = first_where (is_rootless (λ id. list_any (nat_eq id) inputs) (is_target programme)) programme

-- check 11: a programme takes losses from what has none
abbrev pub source_check : Rows → Need → ℕ → Option Refusal
source_check rows need stage = refusal 11 (at_stage stage TheProgramme) (has_sources need stage) (rootless_at (inputs_of rows stage) (programme_of rows stage))

-- whether a row below the top level puts losses into a unit that the next level does not take from
abbrev pub is_dead_end : ℕ → (ℕ × ℕ → Bool) → FmProgramme → Bool
is_dead_end top takes row = nat_lt row.level_id top && not (takes (row.level_id + 1, row.to_agg_id))

-- the first row of a programme whose losses go no further, below the top level
abbrev pub dead_end_at : List FmProgramme → Option ℕ
dead_end_at programme = first_where (is_dead_end (top_level programme) (is_source programme)) programme

-- check 12: a programme's losses go no further, below its top level
abbrev pub target_check : Rows → Need → ℕ → Option Refusal
target_check rows need stage = refusal 12 (at_stage stage TheProgramme) (is_loaded need stage TheProgramme) (dead_end_at (programme_of rows stage))

-- whether terms are above the top level, are for no unit of their level, or have a layer other than 1 below the top level
abbrev pub is_unplaced : ℕ → (ℕ × ℕ → Bool) → FmPolicytc → Bool
is_unplaced top is_unit row = nat_lt top row.level_id || not (is_unit (row.level_id, row.agg_id)) || (nat_lt row.level_id top && not (nat_eq row.layer_id 1))

-- the first terms that have no place in a programme
abbrev pub unplaced_at : List FmProgramme → List FmPolicytc → Option ℕ
unplaced_at programme policytc = first_where (is_unplaced (top_level programme) (is_target programme)) policytc

-- check 13: policy terms have no place in the programme
abbrev pub terms_check : Rows → Need → ℕ → Option Refusal
terms_check rows need stage = refusal 13 (at_stage stage ThePolicytc) (is_loaded need stage ThePolicytc && is_loaded need stage TheProgramme) (unplaced_at (programme_of rows stage) (policytc_of rows stage))

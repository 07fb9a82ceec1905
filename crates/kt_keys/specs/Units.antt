-- The units of a programme and their levels.
-- The rule: docs/FINANCIAL_MODULE.md, "Levels".
use Rattle.std.specs.Prelude.{ℕ, nat_eq, Bool, List, map, max}
use Rattle.std.specs.List.{list_any, fold, filter}
use Rattle.kt_rec.specs.declared.financial.FmProgramme.{FmProgramme}
use Rattle.kt_rec.specs.declared.financial.FmPolicytc.{FmPolicytc}
use Rattle.kt_keys.specs.Keys.{same_pair}

-- the greatest level of a programme, 0 where it has no row
abbrev pub top_level : List FmProgramme → ℕ
top_level programme = fold (λ greatest row. max greatest row.level_id) 0 programme

-- whether a programme takes the losses of a unit at a level
abbrev pub is_source : List FmProgramme → ℕ × ℕ → Bool
is_source programme unit = list_any (same_pair unit) (map (λ row. (row.level_id, row.from_agg_id)) programme)

-- whether a programme puts losses into a unit at a level
abbrev pub is_target : List FmProgramme → ℕ × ℕ → Bool
is_target programme unit = list_any (same_pair unit) (map (λ row. (row.level_id, row.to_agg_id)) programme)

-- the units of the top level
abbrev pub top_targets : List FmProgramme → List ℕ
top_targets programme = map (λ row. row.to_agg_id) (filter (λ row. nat_eq row.level_id (top_level programme)) programme)

-- the layers of the units of the top level
abbrev pub top_layers : List FmProgramme → List FmPolicytc → List (ℕ × ℕ)
top_layers programme policytc = map (λ row. (row.agg_id, row.layer_id)) (filter (λ row. nat_eq row.level_id (top_level programme)) policytc)

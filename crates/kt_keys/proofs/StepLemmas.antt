-- A programme takes the losses of the units that have a next one, and puts losses into those that have a source.
use Rattle.std.proofs.Common.{◌≡◌, ℕ, Bool, true, false, cond, List, [], ◌∷◌, Some, map, refl}
use Rattle.std.specs.Prelude.{◌||◌, is_some}
use Rattle.std.specs.Map.{lookup}
use Rattle.kt_rec.specs.declared.financial.FmProgramme.{FmProgramme}
use Rattle.kt_keys.specs.Climbing.{next_unit}
use Rattle.kt_keys.specs.Keys.{same_pair}
use Rattle.kt_keys.specs.Units.{is_source, is_target}

-- a unit has a next one where the programme takes its losses
pub next-source : (programme : List FmProgramme) (unit : ℕ × ℕ) → is_some (next_unit programme unit) ≡ is_source programme unit
next-source [] unit = refl
next-source (row ∷ programme) unit = by (same_pair unit (row.level_id, row.from_agg_id)) (next-source programme unit)
  where
    by : (b : Bool) → is_some (next_unit programme unit) ≡ is_source programme unit → is_some (cond b (Some row.to_agg_id) (next_unit programme unit)) ≡ (b || is_source programme unit)
    by true rest = refl
    by false rest = rest

-- a unit has a source where the programme puts losses into it
pub source-target : (programme : List FmProgramme) (unit : ℕ × ℕ) → is_some (lookup (same_pair unit) (map (λ row. ((row.level_id, row.to_agg_id), row.from_agg_id)) programme)) ≡ is_target programme unit
source-target [] unit = refl
source-target (row ∷ programme) unit = by (same_pair unit (row.level_id, row.to_agg_id)) (source-target programme unit)
  where
    by : (b : Bool) → is_some (lookup (same_pair unit) (map (λ x. ((x.level_id, x.to_agg_id), x.from_agg_id)) programme)) ≡ is_target programme unit → is_some (cond b (Some row.from_agg_id) (lookup (same_pair unit) (map (λ x. ((x.level_id, x.to_agg_id), x.from_agg_id)) programme))) ≡ (b || is_target programme unit)
    by true rest = refl
    by false rest = rest

-- Where the losses of a unit go, level by level.
-- The rules: docs/FINANCIAL_MODULE.md, "Levels".
use Rattle.std.specs.Prelude.{ℕ, ◌+◌, List, map, suc, zero, Option, Some, None}
use Rattle.std.specs.Map.{lookup}
use Rattle.kt_rec.specs.declared.financial.FmProgramme.{FmProgramme}
use Rattle.kt_keys.specs.Keys.{same_pair}

-- the unit that a unit's losses at a level go to
abbrev pub next_unit : List FmProgramme → ℕ × ℕ → Option ℕ
next_unit programme unit = lookup (same_pair unit) (map (λ row. ((row.level_id, row.from_agg_id), row.to_agg_id)) programme)

-- what follows a unit that may be absent
abbrev pub after : Option ℕ → (ℕ → Option ℕ) → Option ℕ
after None follow = None
after (Some unit) follow = follow unit

-- the unit that a unit's losses come to over so many levels, from a level on
abbrev pub climbed : (ℕ × ℕ → Option ℕ) → ℕ → ℕ → ℕ → Option ℕ
climbed next zero level unit = Some unit
climbed next (suc levels) level unit = after (next (level, unit)) (climbed next levels (level + 1))

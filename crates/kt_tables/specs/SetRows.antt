-- The summaries of the ids of a perspective in one set.
-- The rule: docs/TABLES.md, "Lookups".
use Rattle.std.specs.Prelude.{◌≡◌, ℕ, ◌+◌, ◌*◌, ◌^◌, ◌<◌, nat_eq, List, Option, option_map, slice_get}
use Rattle.std.specs.List.{filter}
use Rattle.kt_tables.specs.declared.summaries.UnitSummary.{UnitSummary}

-- rows of a set, and the set
pub record SetRows : Type 0 where
  pub rows : List UnitSummary
  pub set : ℕ

-- the key of a summary of a unit: its set, and then its unit
abbrev pub unit_key : UnitSummary → ℕ
unit_key row = row.set * 2 ^ 32 + row.unit

-- the summary of an id in a set: that of its first row
abbrev pub summary_at : SetRows → ℕ → Option ℕ
summary_at summaries id = option_map (λ row. row.summary) (slice_get (filter (λ row. nat_eq (unit_key row) (summaries.set * 2 ^ 32 + id)) summaries.rows) 0)

-- it is found so for each id of 32 bits
abbrev pub AreFound : (ℕ → Option ℕ) → SetRows → Type 0
AreFound find summaries = (id : ℕ) → id < 2 ^ 32 → summary_at summaries id ≡ find id

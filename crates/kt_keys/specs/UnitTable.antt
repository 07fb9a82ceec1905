-- Values of units by level.
-- The rule: docs/FINANCIAL_MODULE.md, "Levels".
use Rattle.std.specs.Prelude.{ℕ, ◌&&◌, nat_lt, Bool, List, [], Option, Some, None, is_some, map, slice_get, slice_index_or, unwrap_or}
use Rattle.std.specs.HashMap.{get}
use Rattle.std.specs.List.{range_with_len}
use Rattle.std.specs.Map.{lookup}
use Rattle.kt_keys.specs.Keys.{same_pair}
use Rattle.kt_keys.specs.declared.unit_table.UnitTable.{UnitTable}

-- what stands in a place, where there is one, and else another value
abbrev pub or_else : {V : Type 0} → Option (Option V) → Option V → Option V
or_else None other = other
or_else (Some value) other = value

-- no values of units from 0 up to a width
abbrev pub no_row : {V : Type 0} → ℕ → List (Option V)
no_row width = map (λ unit. None) (range_with_len 0 width)

-- the values of the units of a level from 0 up to a width, each that of the first pair of the level and the unit
abbrev pub first_row : {V : Type 0} → List ((ℕ × ℕ) × V) → ℕ → ℕ → List (Option V)
first_row pairs level width = map (λ unit. lookup (same_pair (level, unit)) pairs) (range_with_len 0 width)

-- how many units of a level have their values side by side
abbrev pub width_at : List ℕ → ℕ → ℕ
width_at widths level = unwrap_or (slice_get widths level) 0

-- whether a unit of a level has its value side by side with others
abbrev pub has_place : List ℕ → ℕ × ℕ → Bool
has_place widths key = nat_lt key.0 13 && nat_lt key.1 (width_at widths key.0)

-- the values of a level that stand side by side
abbrev pub row_from : {V : Type 0} → List ((ℕ × ℕ) × V) → List ℕ → ℕ → List (Option V)
row_from pairs widths level = first_row pairs level (width_at widths level)

-- those of a table
abbrev pub row_at : {V : Type 0} → UnitTable V → ℕ → List (Option V)
row_at table level = slice_index_or (map (λ row. row.items) table.rows.items) level []

-- the value of a unit of a level, by the pair of both: where it stands side by side with others, or else what is kept of the rest
unfoldable pub value_of : {V : Type 0} → UnitTable V → ℕ × ℕ → Option V
value_of table key = or_else (slice_get (row_at table key.0) key.1) (get same_pair table.rest key)

-- whether a unit of a level has a value
abbrev pub has_unit : {V : Type 0} → UnitTable V → ℕ × ℕ → Bool
has_unit table key = is_some (value_of table key)

-- whether a number has a value as a unit of level 0
abbrev pub has_id : {V : Type 0} → UnitTable V → ℕ → Bool
has_id table id = has_unit table (0, id)

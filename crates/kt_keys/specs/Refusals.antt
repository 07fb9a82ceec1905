-- What a check refuses, and the first of several refusals.
-- The rules: docs/CHECKS.md, "When a check is made", "Order".
use Rattle.std.specs.Prelude.{ℕ, Bool, cond, List, suc, zero, Option, None, option_map}
use Rattle.std.specs.List.{fold}
use Rattle.std.specs.Option.{option_or}
use Rattle.kt_rec.specs.declared.table.Table.{Table}
use Rattle.kt_rec.specs.declared.table.TableId.{TableId}
use Rattle.kt_rec.specs.TableSet.{is_in}
use Rattle.kt_keys.specs.declared.need.Need.{Need}
use Rattle.kt_keys.specs.declared.need.Refusal.{Refusal}

-- a table of the base, at 0, or of a reinsurance stage
abbrev pub at_stage : ℕ → Table → TableId
at_stage stage table = record { stage = stage; table = table }

-- whether a table of the base or of a stage is loaded
unfoldable pub is_loaded : Need → ℕ → Table → Bool
is_loaded need stage table = is_in need.loaded (at_stage stage table)

-- what a check refuses: the row that it gives, where its tables are loaded
abbrev pub refusal : ℕ → TableId → Bool → Option ℕ → Option Refusal
refusal number table made row = cond made (option_map (λ place. record { number = number; table = table; row = place }) row) None

-- the first of several refusals
abbrev pub first_of : List (Option Refusal) → Option Refusal
first_of refusals = fold option_or None refusals

-- the first refusal over so many stages, from 0
unfoldable pub over_stages : (ℕ → Option Refusal) → ℕ → Option Refusal
over_stages check zero = None
over_stages check (suc stages) = option_or (over_stages check stages) (check stages)

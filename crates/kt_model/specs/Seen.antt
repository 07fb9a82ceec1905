-- What the check of footprint rows keeps of the rows that it has seen.
-- The rule: docs/CHECKS.md, "Footprint rows of an event".
use Rattle.std.specs.Prelude.{◌≡◌, ℕ, ◌≤◌, nat_eq, List, unwrap_or}
use Rattle.std.specs.List.{list_any}
use Rattle.std.specs.HashMap.{get}
use Rattle.std.specs.HashSet.{contains}
use Rattle.kt_keys.specs.Keys.{same_pair}
use Rattle.kt_rec.specs.declared.hazard.FootRow.{FootRow}
use Rattle.kt_model.specs.declared.foot_rows.Seen.{Seen}
use Rattle.kt_rec.specs.FootRows.{areaperil_total, is_at}

-- the pairs and the totals are those of rows, none of which was refused
pub record IsSeen (rows : List FootRow) (seen : Seen) : Type 0 where
  pub pairs : (key : ℕ × ℕ) → contains same_pair seen.pairs key ≡ list_any (is_at key.0 key.1) rows
  pub totals : (areaperil : ℕ) → unwrap_or (get nat_eq seen.totals areaperil) 0 ≡ areaperil_total rows areaperil
  pub within : (areaperil : ℕ) → areaperil_total rows areaperil ≤ 1001000

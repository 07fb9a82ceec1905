-- The rest has the values of the pairs from a place on.
use Rattle.std.proofs.Common.{◌≡◌, ◌≤◌, ℕ, drop, length}
use Rattle.std.specs.Prelude.{false}
use Rattle.std.specs.HashMap.{get}
use Rattle.std.specs.Map.{lookup}
use Rattle.kt_keys.specs.Keys.{same_pair}
use Rattle.kt_keys.specs.UnitTable.{has_place}
use Rattle.kt_keys.proofs.unit_table.rest_of.Given as goal

abbrev pub invariant-loop-place : goal.invariant-loop-place
invariant-loop-place g l = record {
  within : l.place ≤ length l.pairs;
  values : (key : ℕ × ℕ) → has_place l.widths key ≡ false → get same_pair l.rest key ≡ lookup (same_pair key) (drop l.place l.pairs);
}

abbrev pub decreases-loop-place : goal.decreases-loop-place
decreases-loop-place g l = l.place

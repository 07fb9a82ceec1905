use Rattle.std.proofs.Common.{◌≡◌, ◌≤◌, drop, length}
use Rattle.std.specs.HashMap.{get}
use Rattle.std.specs.Map.{lookup}
use Rattle.kt_keys.proofs.rows.first_values.Given as goal

-- the values are those of the rows from a place on
abbrev pub invariant-loop-place : goal.invariant-loop-place
invariant-loop-place g l = record {
  within : l.place ≤ length l.pairs;
  values : (key : _) → get g.K.PartialEq.eq l.values key ≡ lookup (g.K.PartialEq.eq key) (drop l.place l.pairs);
}

abbrev pub decreases-loop-place : goal.decreases-loop-place
decreases-loop-place g l = l.place

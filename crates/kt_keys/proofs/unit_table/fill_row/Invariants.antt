-- The places have the values of the pairs from a place on.
use Rattle.std.proofs.Common.{◌≡◌, ◌≤◌, drop, length}
use Rattle.kt_keys.proofs.UnitTableLemmas.{HasFirst}
use Rattle.kt_keys.proofs.unit_table.fill_row.Given as goal

abbrev pub invariant-loop-place : goal.invariant-loop-place
invariant-loop-place g l = record {
  within : l.place ≤ length l.pairs;
  long : length l.row ≡ length l.fn.row;
  values : HasFirst l.level l.row (drop l.place l.pairs);
}

abbrev pub decreases-loop-place : goal.decreases-loop-place
decreases-loop-place g l = l.place

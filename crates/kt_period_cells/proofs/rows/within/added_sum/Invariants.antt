-- The losses of the first pairs.
use Rattle.std.proofs.Common.{◌≡◌, ◌*◌, ◌^◌, ◌≤◌, take}
use Rattle.kt_period_cells.specs.Room.{added_sum}
use Rattle.kt_period_cells.proofs.rows.within.added_sum.Given as goal

abbrev pub invariant-loop-pair : goal.invariant-loop-pair
invariant-loop-pair l = record {
  total : l.total ≡ added_sum (take l.pair-index l.pairs);
  bound : l.total ≤ l.pair-index * 10 ^ 16;
}

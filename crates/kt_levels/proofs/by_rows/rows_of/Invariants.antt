use Rattle.kt_levels.specs.ByLanes.{AreRows}
use Rattle.kt_levels.proofs.by_rows.rows_of.Given as goal

abbrev pub invariant-loop-at : goal.invariant-loop-at
invariant-loop-at l = AreRows l.programme l.lanes l.rule l.layers l.at l.rows

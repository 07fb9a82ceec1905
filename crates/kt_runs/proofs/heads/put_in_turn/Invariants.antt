use Rattle.kt_runs.proofs.HeadLemmas.{AreTurned}
use Rattle.kt_runs.proofs.heads.put_in_turn.Given as goal

abbrev pub invariant-loop-at : goal.invariant-loop-at
invariant-loop-at l = AreTurned l.fn.heads l.at l.heads

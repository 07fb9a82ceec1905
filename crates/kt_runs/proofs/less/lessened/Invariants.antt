-- Amounts are taken from the lanes of the heads so far.
use Rattle.kt_runs.proofs.LessLemmas.{AreLess}
use Rattle.kt_runs.proofs.less.lessened.Given as goal

abbrev pub invariant-loop-at : goal.invariant-loop-at
invariant-loop-at l = AreLess l.rows l.taken l.heads l.places l.fn.lanes l.at l.left

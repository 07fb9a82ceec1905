use Rattle.kt_fmtree.proofs.SumLemmas.{IsAdding}
use Rattle.kt_fmtree.proofs.sums.added.Given as goal

abbrev pub invariant-loop-carry : goal.invariant-loop-carry
invariant-loop-carry l = IsAdding l.carries l.carry-index l.all

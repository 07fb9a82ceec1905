-- The losses below the place are added.
use Rattle.kt_gul.specs.Sums.{IsAdding}
use Rattle.kt_gul.proofs.sums.add_to.Given as goal

abbrev pub invariant-loop-place : goal.invariant-loop-place
invariant-loop-place l = IsAdding l.fn.sums l.losses l.sums l.place

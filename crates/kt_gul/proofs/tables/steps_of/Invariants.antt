-- The steps so far are of the distribution.
use Rattle.kt_damage.specs.Steps.{AreSteps}
use Rattle.kt_gul.proofs.tables.steps_of.Given as goal

abbrev pub invariant-loop-place : goal.invariant-loop-place
invariant-loop-place l = AreSteps l.dictionary l.bins l.steps.items

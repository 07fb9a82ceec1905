-- The steps of the distributions so far.
use Rattle.kt_gul.specs.StepTables.{AreTables}
use Rattle.kt_gul.proofs.tables.tables_of.Given as goal

abbrev pub invariant-loop-place : goal.invariant-loop-place
invariant-loop-place l = AreTables l.dictionary l.cdfs l.place l.all.tables.items l.all.steps.items

use Rattle.kt_structure.proofs.PlanLemmas.{IsBuilding}
use Rattle.kt_structure.proofs.plan.Plan.level.Given as goal

abbrev pub invariant-loop-unit : goal.invariant-loop-unit
invariant-loop-unit l = IsBuilding l.self l.level l.units l.unit-index l.nodes.items l.below.items

use Rattle.kt_structure.proofs.plan.Plan.+levels.Given as goal

abbrev pub decreases-levels : goal.decreases-levels
decreases-levels l = l.level

use Rattle.kt_event.specs.Losses.{stage_trees}
use Rattle.kt_ri.specs.Stages.{AreStages}
use Rattle.kt_event.proofs.plan.first_stages.Given as goal

-- the first stages are made
abbrev pub invariant-loop-stage : goal.invariant-loop-stage
invariant-loop-stage l = AreStages (stage_trees l.portfolio.rows l.stage) l.made.items

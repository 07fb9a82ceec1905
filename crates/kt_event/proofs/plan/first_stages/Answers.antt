use Rattle.std.proofs.Common.{sym, subst}
use Rattle.kt_event.specs.Losses.{stage_trees}
use Rattle.kt_ri.specs.Stages.{AreStages}
use Rattle.kt_fmtree.specs.Programme.{tree_of}
use Rattle.kt_event.proofs.StageLemmas.{stage_more}
use Rattle.kt_event.proofs.plan.first_stages.Goals as goal

pub loop-stage-preserved : goal.loop-stage-preserved
loop-stage-preserved c =
    subst (AreStages (stage_trees c.args.portfolio.now.rows _)) (sym c.in_ok-push.ensures.items)
    (stage_more (tree_of c.args.portfolio.now.rows) c.loop-stage.stage c.loop-stage.made.items c.in_ok-stage_of.field-0 c.loop-stage.invariant c.in_ok-stage_of.ensures.value)

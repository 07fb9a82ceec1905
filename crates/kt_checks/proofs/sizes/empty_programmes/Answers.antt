use Rattle.std.proofs.Common.{◌∙◌}
use Rattle.kt_rec.specs.Rows.{rows_of}
use Rattle.kt_checks.specs.TableChecks.{empty_programme}
use Rattle.kt_keys.specs.StageLaws.{stages-none, stages-step}
use Rattle.kt_checks.proofs.sizes.empty_programmes.Goals as goal

pub loop-stage-init : goal.loop-stage-init
loop-stage-init c = stages-none (empty_programme (rows_of c.args.tables.now) c.args.need.now)

pub loop-stage-preserved : goal.loop-stage-preserved
loop-stage-preserved c = c.or-found.ensures ∙ stages-step (empty_programme (rows_of c.args.tables.now) c.args.need.now) c.loop-stage.stage _ _ c.loop-stage.invariant c.empty_programme.ensures.value

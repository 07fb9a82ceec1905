use Rattle.std.proofs.Common.{◌∙◌}
use Rattle.kt_rec.specs.Rows.{rows_of}
use Rattle.kt_keys.specs.NameChecks.{profile_check}
use Rattle.kt_keys.specs.StageLaws.{stages-none, stages-step}
use Rattle.kt_keys.proofs.names.profile_checks.Goals as goal

pub loop-stage-init : goal.loop-stage-init
loop-stage-init c = stages-none (profile_check (rows_of c.args.tables.now) c.args.need.now)

pub loop-stage-preserved : goal.loop-stage-preserved
loop-stage-preserved c = c.or-found.ensures ∙ stages-step (profile_check (rows_of c.args.tables.now) c.args.need.now) c.loop-stage.stage _ _ c.loop-stage.invariant c.in_ok-next.ensures.value

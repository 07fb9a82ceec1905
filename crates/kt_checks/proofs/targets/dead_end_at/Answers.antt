use Rattle.std.proofs.Common.{ap, ◌∙◌}
use Rattle.std.proofs.Math.Path.{fun_ext}
use Rattle.kt_keys.specs.FirstRow.{first_where}
use Rattle.kt_keys.specs.UnitTable.{has_unit}
use Rattle.kt_keys.specs.Units.{top_level}
use Rattle.kt_checks.specs.ProgrammeChecks.{is_dead_end}
use Rattle.kt_checks.proofs.targets.dead_end_at.Goals as goal

pub returns : goal.returns
returns c = record {
  value =
      c.first_dead_end.ensures.value
      ∙ (ap (λ top. first_where (is_dead_end top (has_unit c.in_ok-sources.sources)) c.args.programme.now) c.top_level.ensures.value
      ∙ ap (λ known. first_where (is_dead_end (top_level c.args.programme.now) known) c.args.programme.now) (fun_ext c.in_ok-sources.ensures.sources));
}

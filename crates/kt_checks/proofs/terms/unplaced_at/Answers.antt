use Rattle.std.proofs.Common.{ap, ◌∙◌}
use Rattle.std.proofs.Math.Path.{fun_ext}
use Rattle.kt_keys.specs.FirstRow.{first_where}
use Rattle.kt_keys.specs.UnitTable.{has_unit}
use Rattle.kt_keys.specs.Units.{top_level}
use Rattle.kt_checks.specs.ProgrammeChecks.{is_unplaced}
use Rattle.kt_checks.proofs.terms.unplaced_at.Goals as goal

pub returns : goal.returns
returns c = record {
  value =
      c.first_unplaced.ensures.value
      ∙ (ap (λ top. first_where (is_unplaced top (has_unit c.in_ok-units.units)) c.args.policytc.now) c.top_level.ensures.value
      ∙ ap (λ known. first_where (is_unplaced (top_level c.args.programme.now) known) c.args.policytc.now) (fun_ext c.in_ok-units.ensures.value));
}

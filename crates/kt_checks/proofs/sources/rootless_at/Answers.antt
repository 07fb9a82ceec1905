use Rattle.std.proofs.Common.{ap, nat_eq, ◌∙◌}
use Rattle.std.proofs.Math.Path.{fun_ext}
use Rattle.std.specs.List.{list_any}
use Rattle.kt_keys.specs.FirstRow.{first_where}
use Rattle.kt_keys.specs.UnitTable.{has_unit}
use Rattle.kt_checks.specs.ProgrammeChecks.{is_rootless}
use Rattle.kt_checks.proofs.sources.rootless_at.Goals as goal

pub returns : goal.returns
returns c = record {
  value =
      let rows = c.args.programme.now in
      c.first_rootless.ensures.value
      ∙ (ap (λ known. first_where (is_rootless known (has_unit c.in_ok-units.units)) rows) (fun_ext c.in_ok-known.ensures.value)
      ∙ ap (λ known. first_where (is_rootless (λ id. list_any (nat_eq id) c.args.inputs.now) known) rows) (fun_ext c.in_ok-units.ensures.value));
}

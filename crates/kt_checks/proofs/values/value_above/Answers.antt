use Rattle.std.proofs.Common.{ap, ◌∙◌, unwrap_or}
use Rattle.std.proofs.Math.Path.{fun_ext}
use Rattle.kt_checks.specs.TableChecks.{sum_above_at}
use Rattle.kt_checks.proofs.values.value_above.Goals as goal

pub returns : goal.returns
returns c = record {
  value =
      c.sum_above.ensures.value
      ∙ ap (λ value. sum_above_at value c.args.items.now) (fun_ext (λ row. ap (λ o. unwrap_or o 0) (c.in_ok-values.ensures.value row.coverage_id)));
}

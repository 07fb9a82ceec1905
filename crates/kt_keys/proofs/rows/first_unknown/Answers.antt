use Rattle.std.proofs.Common.{not, ap, ◌∙◌}
use Rattle.std.proofs.Math.Path.{fun_ext}
use Rattle.kt_keys.specs.FirstRow.{first_where, unknown_at}
use Rattle.kt_keys.proofs.rows.first_unknown.Goals as goal

pub returns : goal.returns
unfolding unknown_at
returns c = record {
  value = c.first_outside.ensures.value ∙ ap (λ known. first_where (λ id. not (known id)) c.args.ids.now) (fun_ext (c.in_ok-known.ensures.value.0));
}

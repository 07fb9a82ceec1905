use Rattle.std.proofs.Common.{◌∙◌, ap}
use Rattle.std.specs.Prelude.{is_some}
use Rattle.std.specs.Map.{lookup}
use Rattle.kt_keys.specs.Keys.{same_pair}
use Rattle.kt_checks.proofs.UnitLemmas.{id-known}
use Rattle.kt_checks.proofs.sources.input_units.Goals as goal

pub returns : goal.returns
returns c = record {
  value = λ id. ap is_some (c.in_ok-known.ensures.value (0, id) ∙ ap (lookup (same_pair (0, id))) (c.deref.ensures.value ∙ c.in_ok-units.ensures.value)) ∙ id-known c.args.inputs.now id;
}

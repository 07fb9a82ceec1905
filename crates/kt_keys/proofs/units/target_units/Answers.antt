use Rattle.std.proofs.Common.{◌∙◌, ap}
use Rattle.std.specs.Prelude.{is_some}
use Rattle.std.specs.Map.{lookup}
use Rattle.kt_keys.specs.Keys.{same_pair}
use Rattle.kt_keys.proofs.StepLemmas.{source-target}
use Rattle.kt_keys.proofs.units.target_units.Goals as goal

pub returns : goal.returns
returns c = record {
  value = λ unit. ap is_some (c.in_ok-units.ensures.value unit ∙ ap (lookup (same_pair unit)) (c.deref.ensures.value ∙ c.in_ok-targets.ensures.value)) ∙ source-target c.args.programme.now unit;
}

use Rattle.std.proofs.Common.{◌∙◌, ap}
use Rattle.std.specs.Map.{lookup}
use Rattle.std.proofs.lemmas.Result.{IfOk-weaker}
use Rattle.kt_keys.specs.Keys.{same_triple}
use Rattle.kt_structure.proofs.terms.other_layers.Goals as goal

pub returns : goal.returns
returns c = record { value = IfOk-weaker c.unit_values.result _ _ (λ values found key. found key ∙ ap (lookup (same_triple key)) (c.deref.ensures.value ∙ c.in_ok-pairs.ensures.value)) c.unit_values.ensures.value }

use Rattle.std.proofs.Common.{◌∙◌, ap}
use Rattle.std.specs.Map.{lookup}
use Rattle.std.proofs.lemmas.Result.{IfOk-weaker}
use Rattle.kt_keys.specs.Keys.{same_pair}
use Rattle.kt_structure.proofs.terms.first_layers.Goals as goal

pub returns : goal.returns
returns c = record { value = IfOk-weaker c.new.result _ _ (λ table found key. found key ∙ ap (lookup (same_pair key)) (c.deref.ensures.value ∙ c.in_ok-pairs.ensures.value)) c.new.ensures.value }

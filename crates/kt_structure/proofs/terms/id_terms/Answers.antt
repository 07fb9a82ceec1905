use Rattle.std.proofs.Common.{◌∙◌, ap, nat_eq}
use Rattle.std.specs.Map.{lookup}
use Rattle.std.proofs.lemmas.Result.{IfOk-weaker}
use Rattle.kt_structure.proofs.terms.id_terms.Goals as goal

pub returns : goal.returns
returns c = record { value = IfOk-weaker c.id_values.result _ _ (λ values found key. found key ∙ ap (lookup (nat_eq key)) (c.deref.ensures.value ∙ c.in_ok-pairs.ensures.value)) c.id_values.ensures.value }

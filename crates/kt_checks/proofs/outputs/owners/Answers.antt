use Rattle.std.proofs.Common.{◌∙◌, ℕ, ap}
use Rattle.std.specs.Prelude.{is_some}
use Rattle.std.specs.Map.{lookup}
use Rattle.kt_keys.specs.Keys.{same_pair}
use Rattle.kt_checks.proofs.UnitLemmas.{owner-known}
use Rattle.kt_checks.proofs.outputs.owners.Goals as goal

pub returns : goal.returns
returns c = record {
  value = λ (pair : ℕ × ℕ). ap is_some (c.in_ok-owners.ensures.value (pair.1, pair.0) ∙ ap (lookup (same_pair (pair.1, pair.0))) (c.deref.ensures.value ∙ c.in_ok-layers.ensures.value)) ∙ owner-known c.args.outputs.now pair;
}

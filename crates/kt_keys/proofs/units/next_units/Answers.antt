use Rattle.std.proofs.Common.{◌∙◌, ℕ, ap}
use Rattle.std.specs.Prelude.{is_some}
use Rattle.std.specs.Map.{lookup}
use Rattle.kt_keys.specs.Keys.{same_pair}
use Rattle.kt_keys.proofs.StepLemmas.{next-source}
use Rattle.kt_keys.proofs.units.next_units.Goals as goal

pub returns : goal.returns
returns c =
    let is = λ (unit : ℕ × ℕ). c.in_ok-next.ensures.value unit ∙ ap (lookup (same_pair unit)) (c.deref.ensures.value ∙ c.in_ok-steps.ensures.value) in
    record {
      value = is;
      sources = λ unit. ap is_some (is unit) ∙ next-source c.args.programme.now unit;
    }

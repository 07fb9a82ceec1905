use Rattle.std.proofs.Common.{◌∙◌, ap}
use Rattle.std.specs.Map.{lookup}
use Rattle.kt_keys.specs.Keys.{same_pair}
use Rattle.kt_checks.proofs.UnitLemmas.{worth-known}
use Rattle.kt_checks.proofs.values.tivs.Goals as goal

pub returns : goal.returns
returns c = record {
  value = λ coverage. c.in_ok-values.ensures.value (0, coverage) ∙ (ap (lookup (same_pair (0, coverage))) (c.deref.ensures.value ∙ c.in_ok-units.ensures.value) ∙ worth-known c.args.coverages.now coverage);
}

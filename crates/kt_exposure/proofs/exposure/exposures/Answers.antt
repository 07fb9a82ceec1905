use Rattle.std.proofs.Common.{◌∙◌, Option, ℕ, ap, subst, sym, unwrap_or}
use Rattle.std.specs.Map.{lookup}
use Rattle.kt_keys.specs.Keys.{same_pair}
use Rattle.kt_exposure.specs.Exposure.{summary_covers, value_in, IsTotalOf}
use Rattle.kt_exposure.proofs.exposure.exposures.Goals as goal

pub returns : goal.returns
returns c = record {
  value = λ (key : ℕ × ℕ).
      subst (λ (found : Option ℕ). IsTotalOf (summary_covers c.args.rows.items c.args.pairs.items key) (value_in c.args.tivs.now) (unwrap_or found 0))
      (sym (c.in_ok-found.ensures.value key ∙ ap (lookup (same_pair key)) c.deref.ensures.value)) (c.in_ok-totals.ensures.value key);
}

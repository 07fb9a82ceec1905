use Rattle.std.proofs.Common.{ℕ, unwrap_or}
use Rattle.std.specs.Map.{lookup}
use Rattle.std.proofs.lemmas.Result.{IfOk-weaker}
use Rattle.kt_keys.specs.Keys.{same_pair}
use Rattle.kt_exposure.specs.Exposure.{summary_covers, value_in, IsTotalOf}
use Rattle.kt_exposure.proofs.TotalLemmas.{total-agree, covers-moved}
use Rattle.kt_exposure.proofs.exposure.exposure_list.Goals as goal

pub returns : goal.returns
returns c = record {
  value =
      IfOk-weaker c.totals_of.result _ (λ totals. (key : ℕ × ℕ) → IsTotalOf (summary_covers c.args.rows.items c.args.pairs.items key) (value_in c.args.tivs.now) (unwrap_or (lookup (same_pair key) totals.items) 0))
      (λ totals known key. total-agree _ (summary_covers c.args.rows.items c.args.pairs.items key) _ _ (covers-moved c.args.rows.items c.in_ok-rows.rows c.args.pairs.items c.in_ok-pairs.pairs c.in_ok-rows.ensures.permutation c.in_ok-pairs.ensures.permutation key) (known key))
      c.totals_of.ensures.value;
}

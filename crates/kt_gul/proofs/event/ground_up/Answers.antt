use Rattle.std.proofs.Common.{List, subst, sym, ◌≡◌, IfOk}
use Rattle.std.proofs.lemmas.Result.{IfOk-weaker}
use Rattle.std.specs.List.{All}
use Rattle.kt_stream.specs.Losses.{IsLoss}
use Rattle.kt_stream.specs.declared.entry.LossRecord.{LossRecord}
use Rattle.kt_gul.proofs.event.ground_up.Goals as goal

pub returns : goal.returns
returns c = record {
  value = subst (λ (records : List LossRecord). IfOk c.to_records.result (λ made. made ≡ records)) c.in_ok-lanes.ensures.value c.to_records.ensures.value;
  good = λ is_id. IfOk-weaker c.to_records.result _ _ (λ made is. subst (λ (records : List LossRecord). All (IsLoss c.args.samples) records) (sym is) (c.in_ok-lanes.ensures.good is_id)) c.to_records.ensures.value;
}

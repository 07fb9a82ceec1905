use Rattle.std.proofs.Common.{◌∙◌, List}
use Rattle.std.proofs.lemmas.Result.{IfOk-weaker}
use Rattle.kt_stream.specs.declared.entry.LossRecord.{LossRecord}
use Rattle.kt_ri.proofs.reinsured.records_behind.Goals as goal

pub returns : goal.returns
returns g c = record {
  value = IfOk-weaker c.to_records.result _ _ (λ (made : List LossRecord) made_are tree rule is are. made_are ∙ c.in_ok-lanes.ensures.value tree rule is are) c.to_records.ensures.value;
}

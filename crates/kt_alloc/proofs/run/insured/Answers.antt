use Rattle.std.proofs.Common.{◌∙◌, List, sym, subst, All}
use Rattle.kt_stream.specs.Losses.{IsLoss}
use Rattle.kt_stream.specs.declared.entry.LossRecord.{LossRecord}
use Rattle.kt_alloc.proofs.run.insured.Goals as goal

pub returns : goal.returns
returns g c = record {
  records = c.in_ok-records.ensures.value ∙ c.in_ok-made.ensures.records;
  layers = c.in_ok-made.ensures.layers;
  conserved = c.in_ok-made.ensures.conserved;
  good = subst (λ (made : List LossRecord). All (IsLoss c.args.samples) made) (sym c.in_ok-records.ensures.value) c.in_ok-made.ensures.good;
}

use Rattle.std.proofs.Common.{arith}
use Rattle.kt_schema.proofs.SinkLemmas.{records-fresh}
use Rattle.kt_schema.proofs.to_bin.footprint.Goals as goal

pub read_text-requires : goal.read_text-requires
read_text-requires c = (omega arith, (omega arith, (omega arith, ((λ row range fits. fits), records-fresh _ _))))

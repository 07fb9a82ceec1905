use Rattle.std.proofs.Common.{arith}
use Rattle.kt_schema.proofs.SinkLemmas.{records-fresh}
use Rattle.kt_front.proofs.to_file.footprint_file.Goals as goal

pub read_rows-requires : goal.read_rows-requires
read_rows-requires g c = (omega arith, (omega arith, (omega arith, ((λ row range fits. fits), records-fresh _ _))))

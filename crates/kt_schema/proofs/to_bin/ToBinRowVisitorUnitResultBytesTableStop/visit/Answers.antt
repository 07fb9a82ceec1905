use Rattle.std.proofs.Common.{arith}
use Rattle.kt_schema.proofs.SinkLemmas.{records-fresh}
use Rattle.kt_schema.proofs.to_bin.ToBinRowVisitorUnitResultBytesTableStop.visit.Goals as goal

pub read_text-requires : goal.read_text-requires
read_text-requires g c = (omega (arith, c.requires.size), (c.requires.size, (c.requires.some, ((λ row range fits. tt), records-fresh _ _))))

use Rattle.std.proofs.Common.{arith}
use Rattle.kt_schema.proofs.SinkLemmas.{records-fresh}
use Rattle.kt_front.proofs.to_file.table_file.Goals as goal

pub read_rows-requires : goal.read_rows-requires
read_rows-requires g c = (omega (arith, c.requires.size), (c.requires.size, (c.requires.some, ((λ row range fits. tt), records-fresh _ _))))

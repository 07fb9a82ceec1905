use Rattle.kt_cells.proofs.RecordLemmas.{RecordRead}
use Rattle.kt_cells.proofs.records.read_record.Given as goal

abbrev pub invariant-loop-column : goal.invariant-loop-column
invariant-loop-column g l = RecordRead l.row l.first l.kinds l.bytes l.values l.column l.rule l.rest

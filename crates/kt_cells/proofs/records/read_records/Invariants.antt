use Rattle.std.proofs.Common.{◌+◌, ◌≤◌, length}
use Rattle.kt_cells.specs.Records.{record_rows, records_behind}
use Rattle.kt_cells.specs.Taking.{HandsFront}
use Rattle.kt_cells.proofs.records.read_records.Given as goal

abbrev pub invariant-loop-rest : goal.invariant-loop-rest
invariant-loop-rest g l = record {
  within : l.row + length l.rest ≤ length l.bytes;
  front : HandsFront (λ rows. g.S.RowSink.takes_to l.kinds l.fn.sink rows l.sink) (record_rows l.first l.kinds l.bytes) (records_behind l.row l.first l.kinds l.rest);
}

abbrev pub decreases-loop-rest : goal.decreases-loop-rest
decreases-loop-rest g l = length l.rest

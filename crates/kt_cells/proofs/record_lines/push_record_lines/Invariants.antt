use Rattle.std.proofs.Common.{◌≡◌, ◌+◌, ◌≤◌, length}
use Rattle.kt_cells.specs.Records.{record_rows, records_behind}
use Rattle.kt_cells.specs.Taking.{HasMore}
use Rattle.kt_cells.proofs.WritingLemmas.{lines_put}
use Rattle.kt_cells.proofs.record_lines.push_record_lines.Given as goal

abbrev pub invariant-loop-rest : goal.invariant-loop-rest
invariant-loop-rest g l = record {
  within : l.row + length l.rest ≤ length l.bytes;
  text : lines_put l.fn.before l.kinds l.fn.out (record_rows l.first l.kinds l.bytes) ≡ lines_put l.fn.before l.kinds l.out (records_behind l.row l.first l.kinds l.rest);
  kept : HasMore l.fn.out l.out;
}

abbrev pub decreases-loop-rest : goal.decreases-loop-rest
decreases-loop-rest g l = length l.rest

use Rattle.std.proofs.Common.{◌≡◌, ◌+◌, ◌≤◌, length, take}
use Rattle.kt_cells.specs.Reading.{behind}
use Rattle.kt_cells.specs.Records.{records_behind}
use Rattle.kt_cells.proofs.record_lines.next_records.Given as goal

abbrev pub invariant-loop-count : goal.invariant-loop-count
invariant-loop-count g l = record {
  so_far : records_behind l.before l.first l.kinds l.bytes ≡ behind (take l.count l.rows) (records_behind (l.before + l.count) l.first l.kinds l.rest);
  room : length l.rows ≡ 16;
  within : l.count + length l.rest ≤ length l.bytes;
  most : l.count ≤ l.most;
}

abbrev pub decreases-loop-count : goal.decreases-loop-count
decreases-loop-count g l = length l.rest

use Rattle.std.proofs.Common.{◌+◌, ◌≤◌}
use Rattle.kt_text.specs.Records.{StandsBetween, bytes_left, records_left}
use Rattle.kt_cells.specs.Reading.{table_rows}
use Rattle.kt_cells.specs.Taking.{HandsFront, TakesMore}
use Rattle.kt_cells.specs.Texts.{text_value}
use Rattle.kt_cells.proofs.text_rows.read_rows_left.Given as goal

abbrev pub invariant-loop-count : goal.invariant-loop-count
invariant-loop-count g l = record {
  stands : StandsBetween l.reader;
  within : l.count + bytes_left l.reader ≤ l.fn.before + bytes_left l.fn.reader;
  front : HandsFront (TakesMore (g.S.RowSink.takes_to l.kinds) l.fn.sink l.sink) (table_rows text_value l.ordered 1 l.kinds l.fn.least (l.fn.before + 1) (records_left l.fn.reader)) (table_rows text_value l.ordered 1 l.kinds l.floor (l.count + 1) (records_left l.reader));
}

abbrev pub decreases-loop-count : goal.decreases-loop-count
decreases-loop-count g l = bytes_left l.reader

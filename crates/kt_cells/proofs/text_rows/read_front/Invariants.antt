use Rattle.std.proofs.Common.{◌+◌, ◌≤◌, ◌++◌, ℕ, List, length}
use Rattle.kt_text.specs.PlainText.{csv_records}
use Rattle.kt_cells.specs.Reading.{table_rows}
use Rattle.kt_cells.specs.Taking.{HandsFront, TakesMore}
use Rattle.kt_cells.specs.Texts.{text_value}
use Rattle.kt_cells.proofs.text_rows.read_front.Given as goal

abbrev pub invariant-loop-behind : goal.invariant-loop-behind
invariant-loop-behind g l = record {
  within : l.count + length l.rest ≤ l.start.count + length l.start.rest.now;
  front : (more : List ℕ) → HandsFront (TakesMore (g.S.RowSink.takes_to l.kinds) l.fn.sink l.sink) (table_rows text_value l.ordered 1 l.kinds l.start.floor (l.start.count + 1) (csv_records (l.start.rest.now ++ more))) (table_rows text_value l.ordered 1 l.kinds l.floor (l.count + 1) (csv_records (l.rest ++ more)));
}

abbrev pub decreases-loop-behind : goal.decreases-loop-behind
decreases-loop-behind g l = length l.rest

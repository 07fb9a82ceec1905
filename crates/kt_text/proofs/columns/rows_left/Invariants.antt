use Rattle.std.proofs.Common.{map}
use Rattle.csv.specs.Records.{fields_of}
use Rattle.kt_text.proofs.RowLemmas.{RowsRead}
use Rattle.kt_text.specs.Records.{bytes_left}
use Rattle.kt_text.proofs.columns.rows_left.Given as goal

abbrev pub invariant-loop-records : goal.invariant-loop-records
invariant-loop-records g l = RowsRead g.row.N l.fn.reader l.reader (map fields_of l.records.items)

abbrev pub decreases-loop-records : goal.decreases-loop-records
decreases-loop-records g l = bytes_left l.reader

-- The records of the sums so far are appended.
use Rattle.std.proofs.Common.{◌≡◌, ◌++◌, length, take}
use Rattle.std.specs.List.{flat_map}
use Rattle.kt_stream.specs.Summary.{summary_bytes}
use Rattle.kt_sum.specs.RunSummaries.{records_of}
use Rattle.kt_sum.proofs.summary_sums.put_rows.Given as goal

abbrev pub invariant-loop-row : goal.invariant-loop-row
invariant-loop-row l = record {
  room : length l.room ≡ length l.fn.room;
  text : l.out ≡ l.fn.out ++ flat_map summary_bytes (records_of l.run 2147483646 (take l.row-index l.rows));
}

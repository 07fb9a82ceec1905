use Rattle.std.proofs.Common.{◌≡◌, ◌++◌, drop}
use Rattle.kt_cells.specs.Records.{record_bytes}
use Rattle.kt_cells.specs.Taking.{HasMore}
use Rattle.kt_cells.proofs.record_writer.push_record.Given as goal

abbrev pub invariant-loop-column : goal.invariant-loop-column
invariant-loop-column l = l.out ++ record_bytes (drop l.column l.kinds) (drop l.column l.values) ≡ l.fn.out ++ record_bytes l.kinds l.values
    × HasMore l.fn.out l.out

use Rattle.std.proofs.Common.{◌≡◌, ◌++◌, drop}
use Rattle.kt_cells.specs.Records.{records_bytes}
use Rattle.kt_gen.proofs.groups.push_rows.Given as goal

abbrev pub invariant-loop-row : goal.invariant-loop-row
invariant-loop-row g l = l.out ++ records_bytes l.kinds (drop l.row-index l.rows) ≡ l.fn.out ++ records_bytes l.kinds l.rows

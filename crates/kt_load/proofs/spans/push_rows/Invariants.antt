-- The rows so far stand behind the others, and there is room for all of them.
use Rattle.std.proofs.Common.{◌≡◌, ◌+◌, ◌++◌, ◌≤◌, vec_len, vec_capacity}
use Rattle.kt_load.specs.EventRows.{foot_rows_in}
use Rattle.kt_load.proofs.spans.push_rows.Given as goal

abbrev pub invariant-loop-i : goal.invariant-loop-i
invariant-loop-i l = (l.rows.items ≡ l.fn.rows.items ++ foot_rows_in l.i l.bytes) × (vec_len l.rows ≡ vec_len l.fn.rows + l.i) × (vec_len l.fn.rows + l.count ≤ vec_capacity l.rows)

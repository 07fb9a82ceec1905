use Rattle.std.proofs.Common.{◌≡◌, ◌+◌, map}
use Rattle.std.specs.List.{range_with_len}
use Rattle.kt_fmtree.specs.Carried.{row_from}
use Rattle.kt_fmtree.proofs.carrying.rows_up.Given as goal

abbrev pub invariant-loop-level : goal.invariant-loop-level
invariant-loop-level l = map (λ row. row.items) l.rows.items ≡ map (row_from (map (λ nodes. nodes.items) l.levels) l.fn.leaves.items) (range_with_len 0 (l.level + 1))

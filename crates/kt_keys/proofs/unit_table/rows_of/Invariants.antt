use Rattle.std.proofs.Common.{◌≡◌, map}
use Rattle.std.specs.List.{range_with_len}
use Rattle.kt_keys.specs.UnitTable.{row_from}
use Rattle.kt_keys.proofs.unit_table.rows_of.Given as goal

abbrev pub invariant-loop-level : goal.invariant-loop-level
invariant-loop-level g l = map (λ row. row.items) l.rows.items ≡ map (row_from l.pairs l.widths) (range_with_len 0 l.level)

use Rattle.std.proofs.Common.{◌≡◌}
use Rattle.kt_keys.specs.UnitTable.{no_row}
use Rattle.kt_keys.proofs.unit_table.no_row.Given as goal

abbrev pub invariant-loop-unit : goal.invariant-loop-unit
invariant-loop-unit g l = l.row.items ≡ no_row l._unit

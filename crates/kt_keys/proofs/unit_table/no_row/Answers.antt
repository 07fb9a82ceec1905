use Rattle.std.proofs.Common.{None, refl}
use Rattle.kt_keys.proofs.UnitTableLemmas.{count-goes}
use Rattle.kt_keys.proofs.unit_table.no_row.Goals as goal

pub loop-unit-preserved : goal.loop-unit-preserved
loop-unit-preserved g c = count-goes (λ unit. None) c.loop-unit._unit c.loop-unit.row.items _ _ c.loop-unit.invariant c.in_ok-push.ensures.items refl

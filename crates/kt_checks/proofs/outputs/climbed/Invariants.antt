use Rattle.std.proofs.Common.{◌≡◌, ◌+◌, ◌-◌}
use Rattle.kt_keys.specs.UnitTable.{value_of}
use Rattle.kt_keys.specs.Climbing.{climbed}
use Rattle.kt_checks.proofs.outputs.climbed.Given as goal

abbrev pub invariant-loop-below : goal.invariant-loop-below
invariant-loop-below l = climbed (value_of l.next) (l.levels - l.below) (l.below + 1) l.unit ≡ climbed (value_of l.next) l.levels 1 l.item

use Rattle.std.proofs.Common.{◌≡◌, take}
use Rattle.kt_keys.specs.Units.{top_level}
use Rattle.kt_keys.proofs.units.top_level.Given as goal

abbrev pub invariant-loop-row : goal.invariant-loop-row
invariant-loop-row l = l.greatest ≡ top_level (take l.row-index l.programme)

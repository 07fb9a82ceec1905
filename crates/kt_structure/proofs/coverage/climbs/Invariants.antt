-- The rows of the levels so far, and those that the rows of the last of them still lead to.
use Rattle.std.proofs.Common.{◌≡◌, ◌++◌, ◌+◌, ◌-◌}
use Rattle.std.specs.List.{filter_map}
use Rattle.kt_keys.specs.UnitTable.{value_of}
use Rattle.kt_structure.specs.Coverages.{start_row}
use Rattle.kt_structure.proofs.LevelLemmas.{level_rows}
use Rattle.kt_structure.proofs.coverage.climbs.Given as goal

abbrev pub invariant-loop-below : goal.invariant-loop-below
invariant-loop-below l = l.rows.items ++ level_rows (value_of l.next) (l.top - l.below) (l.below + 1) l.here.items ≡ level_rows (value_of l.next) l.top 1 (filter_map start_row l.covered)

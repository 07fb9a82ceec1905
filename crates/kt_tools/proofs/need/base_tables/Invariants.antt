use Rattle.std.proofs.Common.{◌≡◌, drop}
use Rattle.kt_event.specs.Needs.{with_tables}
use Rattle.kt_tools.specs.Needs.{base_tables}
use Rattle.kt_tools.proofs.need.base_tables.Given as goal

-- with those that are left it is the set of all
abbrev pub invariant-loop-table : goal.invariant-loop-table
invariant-loop-table l = with_tables l.set 0 (drop l.table-index l.tables) ≡ base_tables l.tables

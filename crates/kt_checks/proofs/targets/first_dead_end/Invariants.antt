use Rattle.std.proofs.Common.{◌≡◌, take, drop}
use Rattle.kt_keys.specs.UnitTable.{has_unit}
use Rattle.kt_checks.specs.ProgrammeChecks.{is_dead_end}
use Rattle.kt_keys.specs.FirstRow.{first_where, first_refused_after}
use Rattle.kt_checks.proofs.targets.first_dead_end.Given as goal

abbrev pub invariant-loop-index : goal.invariant-loop-index
invariant-loop-index l =
    first_refused_after (λ _ row. is_dead_end l.top (has_unit l.sources) row) (take l.index l.rows) (drop l.index l.rows) ≡ first_where (is_dead_end l.top (has_unit l.sources)) l.rows

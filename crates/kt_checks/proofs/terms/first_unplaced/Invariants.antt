use Rattle.std.proofs.Common.{◌≡◌, take, drop}
use Rattle.kt_keys.specs.UnitTable.{has_unit}
use Rattle.kt_checks.specs.ProgrammeChecks.{is_unplaced}
use Rattle.kt_keys.specs.FirstRow.{first_where, first_refused_after}
use Rattle.kt_checks.proofs.terms.first_unplaced.Given as goal

abbrev pub invariant-loop-index : goal.invariant-loop-index
invariant-loop-index l =
    first_refused_after (λ _ row. is_unplaced l.top (has_unit l.units) row) (take l.index l.rows) (drop l.index l.rows) ≡ first_where (is_unplaced l.top (has_unit l.units)) l.rows

use Rattle.std.proofs.Common.{◌≡◌}
use Rattle.kt_rec.specs.Rows.{rows_of}
use Rattle.kt_keys.specs.Refusals.{over_stages}
use Rattle.kt_checks.specs.ProgrammeChecks.{terms_check}
use Rattle.kt_checks.proofs.terms.terms_checks.Given as goal

abbrev pub invariant-loop-stage : goal.invariant-loop-stage
invariant-loop-stage l = l.found ≡ over_stages (terms_check (rows_of l.tables) l.need) l.stage

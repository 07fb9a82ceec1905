use Rattle.std.proofs.Common.{◌≡◌}
use Rattle.kt_rec.specs.Rows.{rows_of}
use Rattle.kt_keys.specs.Refusals.{over_stages}
use Rattle.kt_checks.specs.TableChecks.{empty_programme}
use Rattle.kt_checks.proofs.sizes.empty_programmes.Given as goal

abbrev pub invariant-loop-stage : goal.invariant-loop-stage
invariant-loop-stage l = l.found ≡ over_stages (empty_programme (rows_of l.tables) l.need) l.stage

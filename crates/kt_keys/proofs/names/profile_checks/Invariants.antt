use Rattle.std.proofs.Common.{◌≡◌}
use Rattle.kt_rec.specs.Rows.{rows_of}
use Rattle.kt_keys.specs.Refusals.{over_stages}
use Rattle.kt_keys.specs.NameChecks.{profile_check}
use Rattle.kt_keys.proofs.names.profile_checks.Given as goal

abbrev pub invariant-loop-stage : goal.invariant-loop-stage
invariant-loop-stage l = l.found ≡ over_stages (profile_check (rows_of l.tables) l.need) l.stage

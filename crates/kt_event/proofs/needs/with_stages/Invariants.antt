use Rattle.std.proofs.Common.{◌≡◌}
use Rattle.kt_event.specs.Needs.{with_stages}
use Rattle.kt_event.proofs.needs.with_stages.Given as goal

-- the tables of the first stages are in
abbrev pub invariant-loop-stage : goal.invariant-loop-stage
invariant-loop-stage l = l.set ≡ with_stages l.fn.set l.stage

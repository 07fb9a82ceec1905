-- The summaries of the ids so far, by whatever finds the same ones.
use Rattle.std.proofs.Common.{◌≡◌, ℕ, Option, map, take}
use Rattle.kt_tables.specs.SetRows.{AreFound}
use Rattle.kt_sum.proofs.run.found_of.Given as goal

abbrev pub invariant-loop-id : goal.invariant-loop-id
invariant-loop-id l = (find : ℕ → Option ℕ) → AreFound find l.summaries → l.found.items ≡ map find (take l.id-index l.ids)

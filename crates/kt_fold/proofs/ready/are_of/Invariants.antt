-- The records so far are of the event.
use Rattle.std.proofs.Common.{◌≡◌, take}
use Rattle.std.specs.Prelude.{All}
use Rattle.kt_fold.proofs.ready.are_of.Given as goal

abbrev pub invariant-loop-entry : goal.invariant-loop-entry
invariant-loop-entry l = All (λ entry. entry.event ≡ l.event) (take l.entry-index l.summaries.records)

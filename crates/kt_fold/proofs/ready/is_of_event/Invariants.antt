-- The records of the summaries so far are of the event.
use Rattle.std.proofs.Common.{◌≡◌, take}
use Rattle.std.specs.Prelude.{All}
use Rattle.kt_fold.proofs.ready.is_of_event.Given as goal

abbrev pub invariant-loop-summaries : goal.invariant-loop-summaries
invariant-loop-summaries l = All (λ summaries. All (λ entry. entry.event ≡ l.block.event) summaries.records) (take l.summaries-index l.block.summaries)

-- The rows of the occurrences so far are appended.
use Rattle.std.proofs.Common.{◌≡◌, ◌++◌, take}
use Rattle.kt_elt.specs.PeriodLoss.{period_losses}
use Rattle.kt_elt.proofs.period_loss.plt_record_text.Given as goal

abbrev pub invariant-loop-at : goal.invariant-loop-at
invariant-loop-at l = l.out ≡ l.initial.out ++ period_losses l.samples l.entry (take l.at-index l.occurrences)

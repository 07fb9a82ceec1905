-- The losses of the first summaries are there.
use Rattle.std.proofs.Common.{◌≡◌, ◌++◌, take}
use Rattle.kt_curve.specs.LossesOfSamples.{set_losses}
use Rattle.kt_curve.proofs.sample_losses.append_summaries.Given as goal

abbrev pub invariant-loop-summary : goal.invariant-loop-summary
invariant-loop-summary l = l.losses.items ≡ l.fn.losses.items ++ set_losses l.ranks l.part l.maxima (take l.summary-index l.summaries)

-- The running values are those of the pairs so far.
use Rattle.std.proofs.Common.{take}
use Rattle.kt_elt.proofs.Seen.{Seen}
use Rattle.kt_elt.proofs.moments.loss_moments.Given as goal

abbrev pub invariant-loop-pair : goal.invariant-loop-pair
invariant-loop-pair l = Seen l.samples (take l.pair-index l.pairs) l.mean l.sd l.sum l.squares

-- The sums are those of the bins so far.
use Rattle.std.proofs.Common.{drop}
use Rattle.kt_damage.specs.MomentSums.{AreSums}
use Rattle.kt_damage.proofs.moments.whole_moments.Given as goal

abbrev pub invariant-loop-bin : goal.invariant-loop-bin
invariant-loop-bin l = AreSums l.bins (drop l.bin-index l.bins) l.before l.means l.squares

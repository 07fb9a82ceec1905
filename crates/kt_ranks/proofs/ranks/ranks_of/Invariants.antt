-- The ranks of the first return periods are there.
use Rattle.std.proofs.Common.{◌≡◌, take}
use Rattle.kt_ranks.specs.Ranks.{curve_ranks}
use Rattle.kt_ranks.proofs.ranks.ranks_of.Given as goal

abbrev pub invariant-loop-period : goal.invariant-loop-period
invariant-loop-period l = l.ranks.items ≡ curve_ranks l.count (take l.period-index l.returns)

use Rattle.std.proofs.Common.{◌≡◌, take}
use Rattle.kt_ri.proofs.stages.pairs_of.Given as goal

abbrev pub invariant-loop-pair : goal.invariant-loop-pair
invariant-loop-pair l = l.copy ≡ take l.pair-index l.pairs

use Rattle.kt_lanes.specs.SplitLaws.{IsSplitTo}
use Rattle.kt_lanes.proofs.split.divide_split.Given as goal

abbrev pub invariant-loop-k : goal.invariant-loop-k
invariant-loop-k l = IsSplitTo l.totals l.first l.second l.k l.fn.parts l.fn.rests l.parts l.rests

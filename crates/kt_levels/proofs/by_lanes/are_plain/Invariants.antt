use Rattle.std.proofs.Common.{take}
use Rattle.std.specs.List.{All}
use Rattle.kt_levels.specs.ByLanes.{IsPlainLayer}
use Rattle.kt_levels.proofs.by_lanes.are_plain.Given as goal

abbrev pub invariant-loop-one : goal.invariant-loop-one
invariant-loop-one l = All (IsPlainLayer l.programme) (take l.one-index l.layers)

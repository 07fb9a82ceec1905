use Rattle.std.proofs.Common.{take}
use Rattle.kt_levels.specs.Climbed.{ArePlain}
use Rattle.kt_levels.proofs.plain.are_plain.Given as goal

abbrev pub invariant-loop-node : goal.invariant-loop-node
invariant-loop-node l = ArePlain (take l.node-index l.nodes)

use Rattle.std.proofs.Common.{◌≡◌, take}
use Rattle.kt_ri.proofs.stages.copy_of.Given as goal

abbrev pub invariant-loop-entry : goal.invariant-loop-entry
invariant-loop-entry l = l.copy ≡ take l.entry-index l.records

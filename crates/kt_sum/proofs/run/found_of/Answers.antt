use Rattle.std.proofs.Common.{arith}
use Rattle.std.proofs.lemmas.Grind.{common_steps}
use Rattle.kt_sum.proofs.run.found_of.Goals as goal

pub loop-id-preserved : goal.loop-id-preserved
loop-id-preserved c = λ find are. grind (arith, common_steps, c.loop-id.invariant find are, c.of.ensures.value find are)

pub returns : goal.returns
returns c = record { value = λ find are. grind (arith, common_steps, c.loop-id.invariant find are) }

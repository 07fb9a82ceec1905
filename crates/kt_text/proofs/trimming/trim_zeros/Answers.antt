use Rattle.std.proofs.Common.{arith}
use Rattle.kt_text.proofs.TrimmingLemmas.{trimming}
use Rattle.kt_text.proofs.trimming.trim_zeros.Goals as goal

pub returns-then-last-ne48 : goal.returns-then-last-ne48
returns-then-last-ne48 c = grind (arith, trimming)

pub loop-rest-preserved : goal.loop-rest-preserved
loop-rest-preserved c = grind (arith, trimming)

pub returns : goal.returns
returns c = grind (arith, trimming)

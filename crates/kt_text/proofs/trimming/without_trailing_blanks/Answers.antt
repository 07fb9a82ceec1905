use Rattle.std.proofs.Common.{arith}
use Rattle.kt_text.proofs.TrimmingLemmas.{trimming}
use Rattle.kt_text.proofs.trimming.without_trailing_blanks.Goals as goal

pub returns-then-not-is_blank_byte : goal.returns-then-not-is_blank_byte
returns-then-not-is_blank_byte c = grind (arith, trimming)

pub loop-rest-preserved : goal.loop-rest-preserved
loop-rest-preserved c = grind (arith, trimming)

pub returns : goal.returns
returns c = grind (arith, trimming)

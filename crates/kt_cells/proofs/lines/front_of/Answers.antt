-- A count has at most 20 digits.
use Rattle.std.proofs.Common.{arith}
use Rattle.std.proofs.lemmas.Fmt.{length-decimal-le}
use Rattle.kt_cells.proofs.lines.front_of.Goals as goal

pub write_digits-start-requires : goal.write_digits-start-requires
write_digits-start-requires c = (length-decimal-le 20 c.in-Some.count (omega arith) (omega arith) (omega arith), omega arith)

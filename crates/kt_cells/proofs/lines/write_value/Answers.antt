-- No value takes more than 23 bytes.
use Rattle.std.proofs.Common.{arith}
use Rattle.std.proofs.lemmas.Fmt.{length-decimal-le}
use Rattle.kt_cells.proofs.FieldLemmas.{length-plain}
use Rattle.kt_cells.proofs.lines.write_value.Goals as goal

pub write_digits-requires : goal.write_digits-requires
write_digits-requires c = (omega (arith, c.requires.room, length-decimal-le 20 c.args.value (omega arith) (omega arith) (omega arith)), c.requires.within)

pub returns-in-Tiv-clause-short : goal.returns-in-Tiv-clause-short
returns-in-Tiv-clause-short c = omega (arith, c.write_plain.ensures.start, length-plain 20 2 c.args.value (omega arith) (omega arith) (omega arith) (omega arith))

pub returns-in-Ppm-clause-short : goal.returns-in-Ppm-clause-short
returns-in-Ppm-clause-short c = omega (arith, c.write_plain-in-Ppm.ensures.start, length-plain 16 6 c.args.value (omega arith) (omega arith) (omega arith) (omega arith))

pub returns-in_default-clause-short : goal.returns-in_default-clause-short
returns-in_default-clause-short c = omega (arith, c.write_digits.ensures.start, length-decimal-le 20 c.args.value (omega arith) (omega arith) (omega arith))

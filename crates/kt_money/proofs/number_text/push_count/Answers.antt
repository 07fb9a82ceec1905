-- A number of 64 bits has at most 20 digits.
use Rattle.std.proofs.Common.{rules}
use Rattle.std.proofs.lemmas.Fmt.{length-decimal-le}
use Rattle.kt_money.proofs.number_text.push_count.Goals as goal

pub write_digits-start-requires : goal.write_digits-start-requires
write_digits-start-requires c = search (rules, length-decimal-le 20)

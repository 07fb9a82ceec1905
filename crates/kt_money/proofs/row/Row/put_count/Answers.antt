-- A number of 64 bits has at most 20 digits.
use Rattle.std.proofs.Common.{length, arith, ap, rules}
use Rattle.std.proofs.lemmas.Fmt.{length-decimal-le}
use Rattle.std.proofs.lemmas.List.{length-drop}
use Rattle.kt_money.proofs.row.Row.put_count.Goals as goal

pub write_digits-self-inside-requires : goal.write_digits-self-inside-requires
write_digits-self-inside-requires c =
    (omega (arith, length-decimal-le 20 c.args.x (omega arith) (omega arith) (omega arith), ap length c.self.view_is, length-drop c.self.inside.start c.self.inside.bytes), search rules)

pub returns-clause-room : goal.returns-clause-room
returns-clause-room c =
    let w = c.write_digits-self-inside in
    omega (arith, length-decimal-le 20 c.args.x (omega arith) (omega arith) (omega arith), ap length c.self.view_is, length-drop c.self.inside.start c.self.inside.bytes, length-drop w.result w.new.buf)

-- Parts per million have at most 27 bytes.
use Rattle.std.proofs.Common.{length, arith, ap, refl}
use Rattle.std.proofs.lemmas.List.{length-drop}
use Rattle.kt_money.proofs.DecimalLemmas.{length-plain-le}
use Rattle.kt_money.proofs.row.Row.put_ppm.Goals as goal

pub returns-clause-room : goal.returns-clause-room
returns-clause-room c =
    let w = c.write_plain-self-inside in
    omega (arith, length-plain-le 6 1000000 c.from.result refl (omega arith) (omega arith), ap length c.self.view_is, length-drop c.self.inside.start c.self.inside.bytes, length-drop w.result w.new.text)

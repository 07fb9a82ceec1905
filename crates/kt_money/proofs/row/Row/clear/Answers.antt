-- Nothing stands behind the last place.
use Rattle.std.proofs.Common.{arith}
use Rattle.std.proofs.lemmas.List.{drop_all}
use Rattle.kt_money.proofs.row.Row.clear.Goals as goal

pub returns : goal.returns
returns c = record { value = drop_all 256 c.self.inside.bytes (omega arith) }

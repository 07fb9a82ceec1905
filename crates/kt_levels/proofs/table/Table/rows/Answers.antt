use Rattle.std.proofs.Common.{arith}
use Rattle.kt_levels.proofs.TableLemmas.{table-long}
use Rattle.kt_levels.proofs.table.Table.rows.Goals as goal

pub returns : goal.returns
returns c =
    let long = table-long c.self.inside c.self.invariant c.args.self.now c.self.view_is in
    record { value = omega (arith, long); some = omega (arith, long, c.self.invariant.some); most = omega (arith, long, c.self.invariant.most) }

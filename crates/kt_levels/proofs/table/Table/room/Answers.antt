use Rattle.std.proofs.Common.{◌≡◌, ◌+◌, ◌*◌, length, IfOk, sym, subst}
use Rattle.kt_levels.proofs.TableLemmas.{table-long}
use Rattle.kt_levels.proofs.table.Table.room.Goals as goal

pub returns : goal.returns
returns c =
    let rows = sym (table-long c.self.inside c.self.invariant c.args.self.now c.self.view_is) in
    record { room = subst (λ n. IfOk c.pair_room.result (λ room. length room.items ≡ 12 * n + 12)) rows c.pair_room.ensures.room }

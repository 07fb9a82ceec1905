use Rattle.kt_gul.proofs.StruckLemmas.{in_order}
use Rattle.kt_gul.proofs.event.struck_in_order.Goals as goal

pub returns : goal.returns
returns c = record { order = in_order c.args.portfolio.now.rows c.args.cdfs.now c.in_ok-struck.struck.items c.in_ok-struck-2.struck c.in_ok-struck.ensures.value c.in_ok-struck-2.ensures.permutation c.as_slice.ensures.rising }

use Rattle.std.proofs.Common.{arith}
use Rattle.std.proofs.lemmas.List.Elements.{All-set}
use Rattle.kt_outputs.specs.Hands.{IsHandOf}
use Rattle.kt_outputs.proofs.hands.take_text.Goals as goal

pub returns-in-Some : goal.returns-in-Some
returns-in-Some c wanted held =
    let own = c.loop-hand.invariant wanted held in
    let one = own c.loop-hand.hand-index c.hand-item.result (omega (arith, c.loop-hand-test.true, c.loop-hand.auto.hands)) in
    let taken = c.in_ok-text.ensures wanted one in
    (All-set (IsHandOf wanted) c.loop-hand.hands c.loop-hand.hand-index c.take_from.new.hand taken.0 own, rw c.in-Some.is at taken.1)

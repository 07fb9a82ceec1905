use Rattle.std.proofs.Common.{◌∙◌, ap, arith, take_all}
use Rattle.kt_alloc.specs.Outlets.{found}
use Rattle.kt_alloc.proofs.OutletLemmas.{kept-more, kept-none, kept-same}
use Rattle.kt_alloc.proofs.outlets.firsts.Goals as goal
use Rattle.kt_alloc.proofs.outlets.firsts.Goals.{then-next-id+in_ok-push, else-next-id}

pub loop-outlet-init : goal.loop-outlet-init
loop-outlet-init c = rw (c.in_ok-kept.ensures.items) (kept-none c.args.sorted.now)

pub loop-outlet-preserved : goal.loop-outlet-preserved
loop-outlet-preserved c =
    let sorted = c.args.sorted.now in
    let here = c.loop-outlet.invariant in
    elim c.if-next-id.branch [
      | then-next-id+in_ok-push w ↦ rw (w.kept-is, w.next-is, c.from-id.ensures) (kept-more sorted c.loop-outlet.outlet-index c.loop-outlet.next c.loop-outlet.kept.items here c.loop-outlet-test.true w.push.new.self.items (omega (arith, w.if-next-id.true, c.from-id.ensures)) w.in_ok-push.ensures.items)
      | else-next-id w ↦ rw (w.kept-is, w.next-is) (kept-same sorted c.loop-outlet.outlet-index c.loop-outlet.next c.loop-outlet.kept.items here c.loop-outlet-test.true c.requires.rising (omega (arith, w.if-next-id.false, c.from-id.ensures)))
    ]

pub returns : goal.returns
returns c = record { value = record { rises = c.loop-outlet.invariant.rises; same = λ id. c.loop-outlet.invariant.same id ∙ ap (found id) (take_all c.loop-outlet.outlet-index c.args.sorted.now c.loop-outlet-test.false) } }

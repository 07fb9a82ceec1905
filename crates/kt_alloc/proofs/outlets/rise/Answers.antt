use Rattle.std.proofs.Common.{List, arith, map, subst, take_all}
use Rattle.kt_rec.specs.Rising.{IsRising}
use Rattle.kt_alloc.specs.declared.outlets.Outlet.{Outlet}
use Rattle.kt_alloc.proofs.OutletLemmas.{rising-more, rising-none}
use Rattle.kt_alloc.proofs.outlets.rise.Goals as goal

pub loop-outlet-init : goal.loop-outlet-init
loop-outlet-init c = rising-none c.args.outlets.now

pub loop-outlet-preserved : goal.loop-outlet-preserved
loop-outlet-preserved c = rw (c.from-id.ensures) (rising-more c.args.outlets.now c.loop-outlet.outlet-index c.loop-outlet.next c.loop-outlet.invariant c.loop-outlet-test.true (omega (arith, c.if-id-next.false, c.from-id.ensures)))

pub returns : goal.returns
returns c = record { rises = λ _. subst (λ (outlets : List Outlet). IsRising (map (λ outlet. outlet.id) outlets)) (take_all c.loop-outlet.outlet-index c.args.outlets.now c.loop-outlet-test.false) c.loop-outlet.invariant.rises }

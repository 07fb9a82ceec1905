use Rattle.kt_alloc.specs.Index.{outlets_at}
use Rattle.kt_alloc.proofs.KeyLemmas.{placed-end, placed-step}
use Rattle.kt_alloc.proofs.index.OutputIndex.outlets.Goals as goal

pub loop-place-preserved : goal.loop-place-preserved
loop-place-preserved c = placed-step (outlets_at c.args.self.now) c.args.keys.now c.loop-place.outlets.items _ c.loop-place.place (0, 0) c.loop-place-test.true c.loop-place.invariant c.in_ok-push_outlets.ensures.ok

pub returns : goal.returns
returns c = record { value = placed-end (outlets_at c.args.self.now) c.args.keys.now c.loop-place.outlets.items c.loop-place.place c.loop-place-test.false c.loop-place.invariant }

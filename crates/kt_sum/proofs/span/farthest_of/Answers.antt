use Rattle.std.proofs.Common.{arith}
use Rattle.kt_sum.specs.Adding.{IsNoFarther}
use Rattle.kt_sum.proofs.SpanLemmas.{bound_more}
use Rattle.kt_sum.proofs.span.farthest_of.Goals as goal

pub loop-entry-preserved : goal.loop-entry-preserved
loop-entry-preserved c =
    let now = c.farthest-most in
    bound_more (IsNoFarther c.args.from) c.args.records.now c.loop-entry.entry-index c.loop-entry.most now.result c.entry-item.result c.as_slice.result.now
    (λ place is. record { short = is.short; near = omega (arith, is.near, now.ensures.kept) }) c.entry-item.is c.loop-entry-test.true c.as_slice.ensures.value now.ensures.all c.loop-entry.invariant

use Rattle.std.proofs.Common.{◌≤◌, arith}
use Rattle.kt_sum.proofs.SpanLemmas.{bound_more}
use Rattle.kt_sum.proofs.span.lowest_of.Goals as goal

pub loop-entry-preserved : goal.loop-entry-preserved
loop-entry-preserved c =
    let now = c.lowest-least in
    bound_more (λ bound place. bound ≤ place) c.args.records.now c.loop-entry.entry-index c.loop-entry.least now.result c.entry-item.result c.as_slice.result.now
    (λ place low. omega (arith, now.ensures.kept)) c.entry-item.is c.loop-entry-test.true c.as_slice.ensures.value now.ensures.all c.loop-entry.invariant

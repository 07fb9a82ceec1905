use Rattle.std.proofs.Common.{◌+◌, subst, sym}
use Rattle.kt_sum.specs.Adding.{IsSpan}
use Rattle.kt_sum.proofs.SpanLemmas.{near_span}
use Rattle.kt_sum.proofs.span.span_of.Goals as goal

pub returns : goal.returns
returns c =
    let records = c.args.records.now in
    let most = c.farthest_of-most.result in
    record { value = subst (λ least. IsSpan records least (most + 1)) (sym c.from.ensures) (near_span records most c.if-most-ge-BEHIND.false c.farthest_of-most.ensures.all) }

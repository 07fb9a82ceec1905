use Rattle.kt_sum.proofs.SpanLemmas.{exact_span}
use Rattle.kt_sum.proofs.span.exact_span.Goals as goal

pub returns : goal.returns
returns c =
    rw (c.saturating_sub.ensures, c.from-upto.ensures, c.from-least.ensures)
    (record { value = exact_span c.args.records.now c.lowest_of.result c.farthest_of.result c.lowest_of.type_inv c.farthest_of.type_inv c.lowest_of.ensures.all c.farthest_of.ensures.all })

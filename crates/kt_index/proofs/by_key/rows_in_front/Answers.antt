use Rattle.std.proofs.Common.{arith}
use Rattle.kt_index.proofs.PlaceLemmas.{seen, upto_at}
use Rattle.kt_index.proofs.by_key.rows_in_front.Goals as goal

pub returns-else-key-top-clause-value : goal.returns-else-key-top-clause-value
returns-else-key-top-clause-value g c =
    let key = g.T.Keyed.key_of in
    let rows = c.args.rows.now in
    upto_at key rows c.requires.rising c.args.top c.loop-count.count c.loop-count.invariant.upto
    (λ d more. omega (arith, seen key rows c.loop-count.count _ more c.index-rows-count.is c.key.result c.key.ensures.value d, c.if-key-top.false))
    c.loop-count.invariant.within

pub returns-after-loop-count-clause-value : goal.returns-after-loop-count-clause-value
returns-after-loop-count-clause-value g c =
    upto_at g.T.Keyed.key_of c.args.rows.now c.requires.rising c.args.top c.loop-count.count c.loop-count.invariant.upto
    (λ d more. absurd (omega (arith, c.loop-count-test.false)))
    c.loop-count.invariant.within

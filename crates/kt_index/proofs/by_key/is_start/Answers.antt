-- The row at the place is not below the key, and the row before it, where there is one, is.
use Rattle.std.proofs.Common.{◌-◌, arith}
use Rattle.std.proofs.lemmas.Bool.{ltb-true}
use Rattle.kt_index.proofs.PlaceLemmas.{below_at, seen}
use Rattle.kt_index.proofs.by_key.is_start.Goals as goal

pub returns-then-place-eq0-clause-value : goal.returns-then-place-eq0-clause-value
returns-then-place-eq0-clause-value g c = λ is.
    let key = g.T.Keyed.key_of in
    let rows = c.args.rows.now in
    below_at key rows c.requires.rising c.args.low c.args.place
    (λ d. omega (arith, seen key rows c.args.place _ c.if-place-rows.false c.index-rows-place.is c.key.result c.key.ensures.value d, c.if-key-low.false))
    (λ d some. absurd (omega (arith, c.if-place-eq0.true)))
    c.if-place-rows.false

pub returns-else-place-eq0-clause-value : goal.returns-else-place-eq0-clause-value
returns-else-place-eq0-clause-value g c = λ is.
    let key = g.T.Keyed.key_of in
    let rows = c.args.rows.now in
    let within = c.if-place-rows.false in
    below_at key rows c.requires.rising c.args.low c.args.place
    (λ d. omega (arith, seen key rows c.args.place _ within c.index-rows-place.is c.key.result c.key.ensures.value d, c.if-key-low.false))
    (λ d some. let less = ltb-true c.key-else-place-eq0.result c.args.low is in omega (arith, seen key rows (c.args.place - 1) _ (omega arith) c.index-rows-place-else-place-eq0.is c.key-else-place-eq0.result c.key-else-place-eq0.ensures.value d))
    within

-- The spread by the quotient and the rest of the sum.
use Rattle.std.proofs.Common.{◌+◌, ◌*◌, ◌≤◌, arith}
use Rattle.kt_money.proofs.SpreadLemmas.{square_split, split_room, even_part-le, carried-le, spread_quotient}
use Rattle.kt_money.proofs.moments.variance.Goals as goal

pub overflow_mul-spread : goal.overflow_mul-spread
overflow_mul-spread c =
    let n = c.args.n in
    let whole = c.args.whole in
    let rest = c.args.rest in
    let even : whole * (whole * n + rest + rest) ≤ c.args.sumsq =
    even_part-le n _ _ _ (omega arith) (split_room _ _ _ _ c.requires.spread) in
    rw (c.from-mean.ensures, c.from.ensures, c.from-over.ensures) (omega arith)

pub overflow_sub-spread : goal.overflow_sub-spread
overflow_sub-spread c =
    rw (c.from-mean.ensures, c.from.ensures, c.from-over.ensures)
    (even_part-le c.args.n _ _ _ (omega arith) (split_room _ _ _ _ c.requires.spread))

pub overflow_sub-spread-2 : goal.overflow_sub-spread-2
overflow_sub-spread-2 c =
    rw (c.from-2.ensures, c.from-mean.ensures, c.from.ensures, c.from-over.ensures)
    (carried-le c.args.n _ _ _ (omega arith) (split_room _ _ _ _ c.requires.spread))

pub returns : goal.returns
returns c =
    rw (c.divide.ensures.value, c.from-3.ensures, c.from-2.ensures, c.from-mean.ensures, c.from.ensures, c.from-over.ensures, square_split c.args.n c.args.whole c.args.rest)
    (spread_quotient c.args.n _ _ _ (omega arith) (split_room _ _ _ _ c.requires.spread))

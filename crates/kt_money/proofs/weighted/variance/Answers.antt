-- The spread by the quotient and the rest of the sum.
use Rattle.std.proofs.Common.{◌-◌, arith}
use Rattle.kt_money.proofs.SpreadLemmas.{square_split, split_room, even_part-le}
use Rattle.kt_money.proofs.WeightedLemmas.{lost-within, variance_quotient, squares_of_rest}
use Rattle.kt_money.proofs.weighted.variance.Goals as goal

pub overflow_sub-spread : goal.overflow_sub-spread
overflow_sub-spread c =
    rw (c.from-mean.ensures, c.from.ensures, c.from-over.ensures)
    (even_part-le c.args.weights _ _ _ (omega arith) (split_room _ _ _ _ c.requires.spread))

pub quotient_of_many-requires-clause-within : goal.quotient_of_many-requires-clause-within
quotient_of_many-requires-clause-within c =
    rw (c.from-4.ensures, c.from-3.ensures, c.from-2.ensures, c.from-mean.ensures, c.from.ensures, c.from-over.ensures, squares_of_rest c.args.count c.args.rest)
    (lost-within c.args.count c.args.weights _ _ _ (omega arith) (split_room _ _ _ _ c.requires.spread))

pub returns : goal.returns
returns c =
    rw (c.quotient_of_many.ensures, c.from-6.ensures, c.from-5.ensures, c.from-4.ensures, c.from-3.ensures, c.from-2.ensures, c.from-mean.ensures, c.from.ensures, c.from-over.ensures, squares_of_rest c.args.count c.args.rest, square_split c.args.weights c.args.whole c.args.rest)
    (variance_quotient c.args.count c.args.weights _ _ _ (omega arith) (split_room _ _ _ _ c.requires.spread))

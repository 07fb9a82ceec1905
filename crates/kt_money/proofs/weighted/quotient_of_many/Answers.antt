-- The quotient of many, by whole parts and what is left.
use Rattle.std.proofs.Common.{◌-◌, ◌*◌, ◌/◌, ◌<◌, ◌≤◌, arith}
use Rattle.kt_money.proofs.WeightedLemmas.{quotient_covered, quotient_short, missing_parts-le, quotient-small}
use Rattle.kt_money.proofs.weighted.quotient_of_many.Goals as goal

pub overflow_add-result : goal.overflow_add-result
overflow_add-result c =
    let covered : c.args.lost ≤ c.args.count * (c.args.spread - c.args.spread / c.args.divisor * c.args.divisor) =
    rw (c.divide-times.ensures.value, c.from.ensures) at c.if-lost-left.true in
    rw (c.divide.ensures.value, c.divide-times.ensures.value, c.from.ensures, c.from-2.ensures, quotient_covered c.args.count c.args.spread c.args.lost c.args.divisor (omega arith) covered)
    (omega (arith, quotient-small c.args.count c.args.spread c.args.lost c.args.divisor c.requires.several c.requires.divisor))

pub overflow_sub-result : goal.overflow_sub-result
overflow_sub-result c =
    rw (c.divide-else-lost-left.ensures.value, c.divide-times.ensures.value, c.from.ensures, c.from-2.ensures)
    (missing_parts-le c.args.count c.args.spread c.args.lost c.args.divisor (omega arith) c.requires.within)

pub returns-then-lost-left : goal.returns-then-lost-left
returns-then-lost-left c =
    let covered : c.args.lost ≤ c.args.count * (c.args.spread - c.args.spread / c.args.divisor * c.args.divisor) =
    rw (c.divide-times.ensures.value, c.from.ensures) at c.if-lost-left.true in
    rw (c.divide.ensures.value, c.divide-times.ensures.value, c.from.ensures, c.from-2.ensures)
    (quotient_covered c.args.count c.args.spread c.args.lost c.args.divisor (omega arith) covered)

pub returns-else-lost-left : goal.returns-else-lost-left
returns-else-lost-left c =
    let short : c.args.count * (c.args.spread - c.args.spread / c.args.divisor * c.args.divisor) < c.args.lost =
    rw (c.divide-times.ensures.value, c.from.ensures) at c.if-lost-left.false in
    rw (c.divide-else-lost-left.ensures.value, c.divide-times.ensures.value, c.from.ensures, c.from-2.ensures)
    (quotient_short c.args.count c.args.spread c.args.lost c.args.divisor (omega arith) short c.requires.within)

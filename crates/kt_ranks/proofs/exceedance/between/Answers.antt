-- The formula stays within its types.
use Rattle.std.proofs.Common.{◌*◌, ◌/◌, ◌≤◌, arith}
use Rattle.kt_ranks.specs.RankLaws.{between-le}
use Rattle.kt_ranks.proofs.exceedance.between.Goals as goal

pub overflow_cast-result : goal.overflow_cast-result
overflow_cast-result c =
    let part : c.from-2.result * c.from-3.result / c.from-4.result ≤ c.saturating_sub.result =
    rw (c.from-2.ensures, c.from-3.ensures, c.from-4.ensures, c.from.ensures) (between-le c.args.count c.args.period c.args.rank c.saturating_sub.result c.requires.some (omega arith) c.requires.rank) in
    omega arith

pub overflow_add-result : goal.overflow_add-result
overflow_add-result c =
    let part : c.from-2.result * c.from-3.result / c.from-4.result ≤ c.saturating_sub.result =
    rw (c.from-2.ensures, c.from-3.ensures, c.from-4.ensures, c.from.ensures) (between-le c.args.count c.args.period c.args.rank c.saturating_sub.result c.requires.some (omega arith) c.requires.rank) in
    omega arith

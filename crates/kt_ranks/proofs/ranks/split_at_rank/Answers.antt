-- The losses of the ranks up to this one, from the greatest values.
use Rattle.std.proofs.Common.{◌∙◌, sym, arith, rules}
use Rattle.std.proofs.lemmas.List.{get_or_past}
use Rattle.kt_ranks.specs.RankedLosses.{falling}
use Rattle.kt_ranks.specs.SelectLaws.{losses_of_front, split_by_falling, length_falling}
use Rattle.kt_ranks.proofs.ranks.split_at_rank.Goals as goal

pub returns-clause-front : goal.returns-clause-front
returns-clause-front c = λ before within.
    let found = c.select_nth_unstable_by-front in
    losses_of_front c.args.values.now found.result.0.now found.result.1.now found.result.2.now found.ensures.permutation
    (split_by_falling _ _ _ found.ensures.partitioned (λ a r q k. search rules)) before (omega (arith, within, found.ensures.front_len))

pub returns-clause-loss : goal.returns-clause-loss
returns-clause-loss c =
    let found = c.select_nth_unstable_by-front in
    sym (get_or_past (falling found.result.0.now) c.args.rank found.result.1.now (omega (arith, found.ensures.front_len, length_falling found.result.0.now)))
    ∙ losses_of_front c.args.values.now found.result.0.now found.result.1.now found.result.2.now found.ensures.permutation
    (split_by_falling _ _ _ found.ensures.partitioned (λ a r q k. search rules)) c.args.rank (omega (arith, found.ensures.front_len))

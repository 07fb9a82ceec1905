-- One loss more.
use Rattle.std.proofs.Common.{◌++◌, ◌∷◌, [], get_or, ap, sym, ◌∙◌, arith}
use Rattle.std.proofs.lemmas.List.{get_or_past}
use Rattle.kt_period_cells.specs.Outcomes.{on_more}
use Rattle.kt_ranks.specs.RankedLosses.{falling}
use Rattle.kt_ranks.specs.SelectLaws.{losses_more, losses_more_front, length_falling}
use Rattle.kt_ranks.proofs.RankLemmas.{later_fall, later_fewer}
use Rattle.kt_ranks.proofs.ranks.+append_losses.Goals as goal

pub returns-in_ok-push-clause-ok : goal.returns-in_ok-push-clause-ok
returns-in_ok-push-clause-ok t c =
    let past = get_or_past (falling c.args.values.now) (get_or c.args.ranks.now 0 0) c.args.behind (omega (arith, c.if-values-place.true, length_falling c.args.values.now)) in
    on_more c.append_losses.result (λ items. losses_more (λ rank. get_or (falling c.args.values.now) rank c.args.behind) c.args.ranks.now c.args.losses.now.items c.push.new.self.items c.append_losses.new.losses.items c.in-len1-up.len_at_least
    (c.in_ok-push.ensures.items ∙ ap (λ loss. c.args.losses.now.items ++ loss ∷ []) (sym past)) items) c.append_losses.ensures.ok

pub returns-in_ok-push-2-clause-ok : goal.returns-in_ok-push-2-clause-ok
returns-in_ok-push-2-clause-ok t c =
    on_more c.append_losses-else-values-place.result (λ items.
    losses_more_front c.args.values.now c.split_at_rank-front.result.0.now c.split_at_rank-front.result.1 c.args.behind c.args.ranks.now c.args.losses.now.items c.push-else-values-place.new.self.items c.append_losses-else-values-place.new.losses.items c.in-len1-up.len_at_least c.requires.falls c.if-values-place.false
    c.split_at_rank-front.ensures.loss c.split_at_rank-front.ensures.front c.in_ok-push-2.ensures.items items) c.append_losses-else-values-place.ensures.ok

pub append_losses-requires : goal.append_losses-requires
append_losses-requires t c = (omega (arith, c.decreases, later_fewer c.args.ranks.now c.in-len1-up.len_at_least), later_fall c.args.ranks.now c.in-len1-up.len_at_least c.requires.falls)

pub append_losses-requires-else-values-place : goal.append_losses-requires-else-values-place
append_losses-requires-else-values-place t c = (omega (arith, c.decreases, later_fewer c.args.ranks.now c.in-len1-up.len_at_least), later_fall c.args.ranks.now c.in-len1-up.len_at_least c.requires.falls)

-- The loss of one rank more.
use Rattle.std.proofs.Common.{◌++◌, ◌∷◌, [], get_or, map, take, take_all, append_assoc, sym, ap, ◌∙◌}
use Rattle.std.proofs.lemmas.List.{map_more}
use Rattle.kt_ranks.specs.RankedLosses.{ranked_loss}
use Rattle.kt_ranks.specs.RankLaws.{loss_is_ranked}
use Rattle.kt_ranks.proofs.ranks.append_ranked.Goals as goal

pub returns-then-values-gt-FEW-clause-ok : goal.returns-then-values-gt-FEW-clause-ok
returns-then-values-gt-FEW-clause-ok c = c.append_losses.ensures.ok

pub loop-place-preserved : goal.loop-place-preserved
loop-place-preserved c =
    let i = c.loop-place.place-index in
    let values = c.args.values.now in
    let ranks = c.args.ranks.now in
    let base = c.args.losses.now.items in
    let here = c.loss_of_rank.ensures.value ∙ loss_is_ranked c.rank.new.values values c.rank.ensures.falls (λ least some. c.rank.ensures.same least) (get_or ranks i 0) in
    c.in_ok-push.ensures.items ∙ ap (λ loss. c.loop-place.losses.items ++ loss ∷ []) here ∙ ap (λ items. items ++ ranked_loss values (get_or ranks i 0) ∷ []) c.loop-place.invariant
    ∙ append_assoc base (map (ranked_loss values) (take i ranks)) (ranked_loss values (get_or ranks i 0) ∷ [])
    ∙ ap (λ more. base ++ more) (sym (map_more (ranked_loss values) ranks i 0 c.loop-place-test.true))

pub returns-clause-ok : goal.returns-clause-ok
returns-clause-ok c = rw (take_all c.loop-place.place-index c.args.ranks.now c.loop-place-test.false) at c.loop-place.invariant

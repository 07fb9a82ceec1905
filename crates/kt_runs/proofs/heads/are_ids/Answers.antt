use Rattle.std.proofs.Common.{◌≤◌, ◌<◌, ◌∙◌, ◌++◌, ◌∷◌, [], ℕ, List, length, map, slice_index_or, take, sym, ap, arith}
use Rattle.std.proofs.lemmas.List.{map_more, take_all, take_more}
use Rattle.kt_runs.specs.LossLanes.{no_head}
use Rattle.kt_runs.specs.declared.heads.LossHead.{LossHead}
use Rattle.kt_runs.proofs.heads.are_ids.Goals as goal

pub loop-at-preserved : goal.loop-at-preserved
loop-at-preserved c =
    let heads = c.args.heads.now in
    let ids = c.args.ids.now in
    let at = c.loop-at.at in
    let inside : at < length ids = omega (arith, c.loop-at-test.true, c.if-heads-ids.false) in
    map_more (λ (head : LossHead). head.id) heads at no_head c.loop-at-test.true
    ∙ (ap (λ (front : List ℕ). front ++ (slice_index_or heads at no_head).id ∷ []) c.loop-at.invariant
    ∙ (ap (λ (id : ℕ). take at ids ++ id ∷ []) c.if-heads-at.false ∙ sym (take_more ids at 0 inside)))

pub returns : goal.returns
returns c =
    let heads = c.args.heads.now in
    let ids = c.args.ids.now in
    let at = c.loop-at.at in
    let past : length ids ≤ at = omega (arith, c.loop-at-test.false, c.if-heads-ids.false) in
    record { value = λ _. ap (map (λ (head : LossHead). head.id)) (sym (take_all at heads c.loop-at-test.false)) ∙ (c.loop-at.invariant ∙ take_all at ids past) }

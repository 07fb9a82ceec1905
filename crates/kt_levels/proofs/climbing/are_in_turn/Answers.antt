use Rattle.std.proofs.Common.{◌≡◌, ◌+◌, ◌++◌, ◌∷◌, [], ◌∙◌, slice_index, sym, ap, arith}
use Rattle.std.specs.List.{range_with_len}
use Rattle.std.proofs.lemmas.List.{take_all, take_more}
use Rattle.kt_levels.specs.DownLaws.{range-more}
use Rattle.kt_levels.proofs.climbing.are_in_turn.Goals as goal

pub loop-at-preserved : goal.loop-at-preserved
loop-at-preserved c =
    let places = c.args.places.now in
    let i = c.loop-at.at in
    let here : i ≡ 0 + i = omega arith in
    take_more places i 0 c.loop-at-test.true
    ∙ (ap (λ front. front ++ slice_index places i ∷ []) c.loop-at.invariant
    ∙ (ap (λ n. range_with_len 0 i ++ n ∷ []) (c.if-places-at.false ∙ here) ∙ sym (range-more 0 i)))

pub returns : goal.returns
returns c =
    let i = c.loop-at.at in
    let end : i ≡ c.args.count = omega (arith, c.loop-at-test.false, c.loop-at.auto.at-end, c.if-places-count.false) in
    record { value = λ _. sym (take_all i c.args.places.now c.loop-at-test.false) ∙ (c.loop-at.invariant ∙ ap (range_with_len 0) end) }

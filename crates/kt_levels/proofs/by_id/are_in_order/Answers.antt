use Rattle.std.proofs.Common.{◌≤◌, ◌<◌, ◌+◌, ◌∙◌, length, map, slice_index, slice_index_or, take, sym, ap, arith}
use Rattle.std.proofs.lemmas.List.{take_all, take_more}
use Rattle.kt_fmtree.specs.LoopLaws.{map-goes}
use Rattle.kt_fmtree.specs.Parts.{units_at}
use Rattle.kt_levels.proofs.by_id.are_in_order.Goals as goal

pub loop-at-preserved : goal.loop-at-preserved
loop-at-preserved c =
    let ids = c.args.ids.now in
    let i = c.loop-at.at in
    let inside : i < length ids = omega (arith, c.loop-at-test.true, c.if-places-ids.false) in
    sym (map-goes (slice_index (units_at c.args.programme.now 0)) c.args.places.now i 0 (take i ids) (take (i + 1) ids) (slice_index_or ids i 0) c.loop-at-test.true (sym c.loop-at.invariant) (take_more ids i 0 inside) (sym c.if-id_at-ids.false ∙ c.id_at.ensures.value))

pub returns : goal.returns
returns c =
    let ids = c.args.ids.now in
    let places = c.args.places.now in
    let i = c.loop-at.at in
    let past : length ids ≤ i = omega (arith, c.loop-at-test.false, c.if-places-ids.false) in
    record { value = λ _. ap (map (slice_index (units_at c.args.programme.now 0))) (sym (take_all i places c.loop-at-test.false)) ∙ (c.loop-at.invariant ∙ take_all i ids past) }

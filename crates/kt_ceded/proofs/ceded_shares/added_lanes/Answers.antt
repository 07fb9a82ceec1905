use Rattle.std.proofs.Common.{◌<◌, ◌+◌, ◌∙◌, [], length, refl, slice_index, slice_index_or, sym, subst, arith}
use Rattle.std.proofs.lemmas.List.{get_or_default}
use Rattle.kt_lanes.specs.Lanes.{AreWide, IsLane}
use Rattle.kt_ceded.proofs.AddedLemmas.{before-wide, lane-fits, lane-more, lane-wide}
use Rattle.kt_ceded.proofs.ceded_shares.added_lanes.Goals as goal

pub add-requires-clause-place : goal.add-requires-clause-place
add-requires-clause-place c = omega (arith, c.requires.within c.loop-k.k 0 c.loop-k-test.true, c.loop-k.invariant.count_is)

pub add-requires-clause-wide : goal.add-requires-clause-wide
add-requires-clause-wide c =
    let k = c.loop-k.k in
    let place = slice_index_or c.args.places.now k 0 in
    let ceded = c.loop-k.ceded in
    let inside : place < length ceded = omega (arith, c.requires.within k 0 c.loop-k-test.true, c.loop-k.invariant.count_is) in
    let before = slice_index_or ceded place [] in
    subst (λ n. AreWide n ceded) (sym (lane-wide c.args.width c.args.places.now c.args.table.now c.requires.shares k c.loop-k-test.true ceded c.loop-k.invariant place refl before (get_or_default ceded place [] before inside) c.shares.result.now c.shares.ensures.value inside ∙ before-wide c.args.width c.args.places.now c.args.table.now c.requires.shares k c.loop-k-test.true ceded c.loop-k.invariant place refl before (get_or_default ceded place [] before inside) c.shares.result.now c.shares.ensures.value inside)) c.loop-k.invariant.wide

pub add-requires-clause-few : goal.add-requires-clause-few
add-requires-clause-few c =
    let k = c.loop-k.k in
    let place = slice_index_or c.args.places.now k 0 in
    let ceded = c.loop-k.ceded in
    let inside : place < length ceded = omega (arith, c.requires.within k 0 c.loop-k-test.true, c.loop-k.invariant.count_is) in
    let before = slice_index_or ceded place [] in
    λ row less. lane-fits c.args.width c.args.places.now c.args.table.now c.requires.shares k c.loop-k-test.true ceded c.loop-k.invariant place refl before (get_or_default ceded place [] before inside) c.shares.result.now c.shares.ensures.value inside row (subst (λ n. row < n) (lane-wide c.args.width c.args.places.now c.args.table.now c.requires.shares k c.loop-k-test.true ceded c.loop-k.invariant place refl before (get_or_default ceded place [] before inside) c.shares.result.now c.shares.ensures.value inside) less)

pub loop-k-preserved : goal.loop-k-preserved
loop-k-preserved c =
    let k = c.loop-k.k in
    let place = slice_index_or c.args.places.now k 0 in
    let ceded = c.loop-k.ceded in
    let inside : place < length ceded = omega (arith, c.requires.within k 0 c.loop-k-test.true, c.loop-k.invariant.count_is) in
    let before = slice_index_or ceded place [] in
    let added = c.add.ensures.value in
    lane-more c.args.width c.args.places.now c.args.table.now c.requires.shares k c.loop-k-test.true ceded c.loop-k.invariant place refl before (get_or_default ceded place [] before inside) c.shares.result.now c.shares.ensures.value inside added.lane
    (subst (λ n. IsLane n (λ row. slice_index before row + slice_index c.shares.result.now row) added.lane) (lane-wide c.args.width c.args.places.now c.args.table.now c.requires.shares k c.loop-k-test.true ceded c.loop-k.invariant place refl before (get_or_default ceded place [] before inside) c.shares.result.now c.shares.ensures.value inside) added.lane_is) c.add.new.self added.now_is

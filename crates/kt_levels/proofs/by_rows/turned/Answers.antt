use Rattle.std.proofs.Common.{◌≡◌, ◌∙◌, Vec, Global, ℕ, length, slice_index, take, ap, sym, subst, arith, rules, vec_len}
use Rattle.std.specs.Vec.{with_items}
use Rattle.std.proofs.lemmas.List.{length-map, with_items_is}
use Rattle.kt_lanes.specs.Lanes.{AreLanes}
use Rattle.kt_levels.specs.ByLanes.{row_in}
use Rattle.kt_levels.proofs.ByRowsLemmas.{turned-end, turned-more}
use Rattle.kt_levels.proofs.by_rows.turned.Goals as goal

pub loop-place-preserved : goal.loop-place-preserved
loop-place-preserved c =
    let rows = c.args.rows.now in
    let place = c.loop-place.place in
    let room = c.loop-place.lane in
    let taken = c.take_amounts.new.lane in
    let all : vec_len room ≡ length room.items = search rules in
    let long : length taken ≡ length rows = ap length c.take_amounts.ensures.value ∙ length-map rows (λ (row : Vec ℕ Global). slice_index row.items place) in
    let kept : (with_items room taken).items ≡ taken = with_items_is room taken (long ∙ (sym c.loop-place.invariant.lane ∙ sym all)) in
    record {
      lane = ap length kept ∙ long;
      lanes =
          turned-more c.args.count rows c.requires.wide place c.loop-place-test.true c.loop-place.lanes c.push.new.self c.deref.result.now c.loop-place.invariant.lanes
          (c.deref.ensures.value ∙ (kept ∙ c.take_amounts.ensures.value)) c.in_ok-push.ensures.ok;
    }

pub returns : goal.returns
returns c =
    let end : c.loop-place.place ≡ c.args.count = omega (arith, c.loop-place-test.false, c.loop-place.auto.place-end) in
    record {
      value = turned-end c.args.count c.args.rows.now c.requires.wide c.loop-place.lanes (subst (λ n. AreLanes (length c.args.rows.now) n (λ k. take n (row_in c.args.rows.now k)) c.loop-place.lanes) end c.loop-place.invariant.lanes);
    }

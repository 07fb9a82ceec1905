use Rattle.std.proofs.Common.{◌≡◌, ◌∙◌, ◌<◌, ◌+◌, ◌-◌, ◌*◌, ◌^◌, ℕ, List, [], length, slice_index, ap, sym, subst, arith, rules, vec_len}
use Rattle.std.proofs.lemmas.List.{with_items_is}
use borrow.Rule.Slice.PartMut.{put_mid}
use Rattle.kt_lanes.specs.Lanes.{IsLane}
use Rattle.kt_lanes.specs.SideBySide.{cut}
use Rattle.kt_lanes.proofs.CutLemmas.{lane-here, part-wide, place-inside, written-long, written-set}
use Rattle.kt_lanes.proofs.lanes.Lanes.add_amounts.Goals as goal

pub overflow_mul-start : goal.overflow_mul-start
overflow_mul-start g c =
    let kept = c.self.inside in
    record { fits = omega (arith, kept.amounts.ok, place-inside kept.width kept.count kept.amounts.items c.self.invariant c.args.self.now c.self.view_is c.args.place c.requires.place) }

pub overflow_add-end : goal.overflow_add-end
overflow_add-end g c =
    let kept = c.self.inside in
    record { fits = omega (arith, kept.amounts.ok, place-inside kept.width kept.count kept.amounts.items c.self.invariant c.args.self.now c.self.view_is c.args.place c.requires.place) }

pub offset_bounds-deref_mut-start : goal.offset_bounds-deref_mut-start
offset_bounds-deref_mut-start g c =
    let kept = c.self.inside in
    record { fits = omega (arith, kept.amounts.ok, place-inside kept.width kept.count kept.amounts.items c.self.invariant c.args.self.now c.self.view_is c.args.place c.requires.place) }

pub slice_bounds-add_to-end : goal.slice_bounds-add_to-end
slice_bounds-add_to-end g c =
    let kept = c.self.inside in
    let inside = place-inside kept.width kept.count kept.amounts.items c.self.invariant c.args.self.now c.self.view_is c.args.place c.requires.place in
    rw c.deref_mut.ensures.value inside

pub add_to-requires-clause-wide : goal.add_to-requires-clause-wide
add_to-requires-clause-wide g c =
    let kept = c.self.inside in
    let here = lane-here kept.width kept.count kept.amounts.items c.self.invariant c.args.self.now c.self.view_is c.args.place c.requires.place c.deref_mut.result.now c.deref_mut.ensures.value [] in
    ap length here ∙ c.requires.wide c.args.place [] c.requires.place

pub add_to-requires-clause-few : goal.add_to-requires-clause-few
add_to-requires-clause-few g c =
    let kept = c.self.inside in
    let amount = g.A.Amounts.amount c.args.more.now in
    let here = lane-here kept.width kept.count kept.amounts.items c.self.invariant c.args.self.now c.self.view_is c.args.place c.requires.place c.deref_mut.result.now c.deref_mut.ensures.value [] in
    λ k below. subst (λ (lane : List ℕ). slice_index lane k + amount k < 2 ^ 64) (sym here) (c.requires.few k below)

pub invariant_of-self : goal.invariant_of-self
invariant_of-self g c =
    let kept = c.self.inside in
    let lane = c.add_to.new.lane in
    let start = kept.width * c.args.place in
    let here = lane-here kept.width kept.count kept.amounts.items c.self.invariant c.args.self.now c.self.view_is c.args.place c.requires.place c.deref_mut.result.now c.deref_mut.ensures.value [] in
    let part = part-wide kept.width kept.count kept.amounts.items c.self.invariant c.args.self.now c.self.view_is c.args.place c.requires.place c.deref_mut.result.now c.deref_mut.ensures.value in
    let wide : length lane ≡ kept.width = c.add_to.ensures.value.wide ∙ (sym (ap length here ∙ c.requires.wide c.args.place [] c.requires.place) ∙ part) in
    let written = put_mid start (start + kept.width - start) c.deref_mut.result.now lane in
    let long : length written ≡ kept.width * kept.count = written-long kept.width kept.count kept.amounts.items c.self.invariant c.args.self.now c.self.view_is c.args.place c.requires.place c.deref_mut.result.now lane c.deref_mut.ensures.value wide in
    let all : vec_len kept.amounts ≡ length kept.amounts.items = search rules in
    ap length (with_items_is kept.amounts written (long ∙ (sym c.self.invariant ∙ sym all))) ∙ long

pub returns : goal.returns
returns g c =
    let kept = c.self.inside in
    let width = g.A.Amounts.width c.args.more.now in
    let amount = g.A.Amounts.amount c.args.more.now in
    let lane = c.add_to.new.lane in
    let start = kept.width * c.args.place in
    let here = lane-here kept.width kept.count kept.amounts.items c.self.invariant c.args.self.now c.self.view_is c.args.place c.requires.place c.deref_mut.result.now c.deref_mut.ensures.value [] in
    let part = part-wide kept.width kept.count kept.amounts.items c.self.invariant c.args.self.now c.self.view_is c.args.place c.requires.place c.deref_mut.result.now c.deref_mut.ensures.value in
    let wide : length lane ≡ kept.width = c.add_to.ensures.value.wide ∙ (sym (ap length here ∙ c.requires.wide c.args.place [] c.requires.place) ∙ part) in
    let written = put_mid start (start + kept.width - start) c.deref_mut.result.now lane in
    let long : length written ≡ kept.width * kept.count = written-long kept.width kept.count kept.amounts.items c.self.invariant c.args.self.now c.self.view_is c.args.place c.requires.place c.deref_mut.result.now lane c.deref_mut.ensures.value wide in
    let all : vec_len kept.amounts ≡ length kept.amounts.items = search rules in
    record {
      value = record {
        lane = lane;
        lane_is = subst (λ (p : List ℕ). IsLane width (λ k. slice_index p k + amount k) lane) here c.add_to.ensures.value;
        now_is =
            ap (cut kept.width kept.count) (with_items_is kept.amounts written (long ∙ (sym c.self.invariant ∙ sym all)))
            ∙ written-set kept.width kept.count kept.amounts.items c.self.invariant c.args.self.now c.self.view_is c.args.place c.requires.place c.deref_mut.result.now lane c.deref_mut.ensures.value wide;
      };
    }

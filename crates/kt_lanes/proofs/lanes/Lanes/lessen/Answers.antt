use Rattle.std.proofs.Common.{◌≡◌, ◌∙◌, ◌+◌, ◌-◌, ◌*◌, ℕ, List, [], length, take, drop, slice_index, ap, sym, subst, arith, rules, vec_len}
use Rattle.std.proofs.lemmas.List.{with_items_is}
use borrow.Rule.Slice.PartMut.{put_mid}
use Rattle.kt_lanes.specs.Lanes.{IsLane}
use Rattle.kt_lanes.specs.SideBySide.{cut}
use Rattle.kt_lanes.proofs.CutLemmas.{lane-here, part-wide, place-inside, written-long, written-set}
use Rattle.kt_lanes.proofs.lanes.Lanes.lessen.Goals as goal

pub overflow_mul-start : goal.overflow_mul-start
overflow_mul-start c =
    let kept = c.self.inside in
    record { fits = omega (arith, kept.amounts.ok, place-inside kept.width kept.count kept.amounts.items c.self.invariant c.args.self.now c.self.view_is c.args.place c.requires.place) }

pub overflow_add-end : goal.overflow_add-end
overflow_add-end c =
    let kept = c.self.inside in
    record { fits = omega (arith, kept.amounts.ok, place-inside kept.width kept.count kept.amounts.items c.self.invariant c.args.self.now c.self.view_is c.args.place c.requires.place) }

pub offset_bounds-deref_mut-start : goal.offset_bounds-deref_mut-start
offset_bounds-deref_mut-start c =
    let kept = c.self.inside in
    record { fits = omega (arith, kept.amounts.ok, place-inside kept.width kept.count kept.amounts.items c.self.invariant c.args.self.now c.self.view_is c.args.place c.requires.place) }

pub slice_bounds-take_from-end : goal.slice_bounds-take_from-end
slice_bounds-take_from-end c =
    let kept = c.self.inside in
    let inside = place-inside kept.width kept.count kept.amounts.items c.self.invariant c.args.self.now c.self.view_is c.args.place c.requires.place in
    rw c.deref_mut.ensures.value inside

pub take_from-requires : goal.take_from-requires
take_from-requires c =
    let kept = c.self.inside in
    let here = lane-here kept.width kept.count kept.amounts.items c.self.invariant c.args.self.now c.self.view_is c.args.place c.requires.place c.deref_mut.result.now c.deref_mut.ensures.value [] in
    record { same = sym (ap length here ∙ c.requires.wide c.args.place [] c.requires.place) }

pub invariant_of-self : goal.invariant_of-self
invariant_of-self c =
    let kept = c.self.inside in
    let lane = c.take_from.new.lane in
    let start = kept.width * c.args.place in
    let part = part-wide kept.width kept.count kept.amounts.items c.self.invariant c.args.self.now c.self.view_is c.args.place c.requires.place c.deref_mut.result.now c.deref_mut.ensures.value in
    let wide : length lane ≡ kept.width = c.take_from.ensures.value.wide ∙ part in
    let written = put_mid start (start + kept.width - start) c.deref_mut.result.now lane in
    let long : length written ≡ kept.width * kept.count = written-long kept.width kept.count kept.amounts.items c.self.invariant c.args.self.now c.self.view_is c.args.place c.requires.place c.deref_mut.result.now lane c.deref_mut.ensures.value wide in
    let all : vec_len kept.amounts ≡ length kept.amounts.items = search rules in
    ap length (with_items_is kept.amounts written (long ∙ (sym c.self.invariant ∙ sym all))) ∙ long

pub returns : goal.returns
returns c =
    let kept = c.self.inside in
    let less = c.args.less.now in
    let lane = c.take_from.new.lane in
    let start = kept.width * c.args.place in
    let old = take (start + kept.width - start) (drop start c.deref_mut.result.now) in
    let here = lane-here kept.width kept.count kept.amounts.items c.self.invariant c.args.self.now c.self.view_is c.args.place c.requires.place c.deref_mut.result.now c.deref_mut.ensures.value [] in
    let part = part-wide kept.width kept.count kept.amounts.items c.self.invariant c.args.self.now c.self.view_is c.args.place c.requires.place c.deref_mut.result.now c.deref_mut.ensures.value in
    let wide : length lane ≡ kept.width = c.take_from.ensures.value.wide ∙ part in
    let written = put_mid start (start + kept.width - start) c.deref_mut.result.now lane in
    let long : length written ≡ kept.width * kept.count = written-long kept.width kept.count kept.amounts.items c.self.invariant c.args.self.now c.self.view_is c.args.place c.requires.place c.deref_mut.result.now lane c.deref_mut.ensures.value wide in
    let all : vec_len kept.amounts ≡ length kept.amounts.items = search rules in
    record {
      value = record {
        lane = lane;
        lane_is =
            subst (λ (p : List ℕ). IsLane (length less) (λ k. slice_index p k - slice_index less k) lane) here
            (subst (λ (n : ℕ). IsLane n (λ k. slice_index old k - slice_index less k) lane) (ap length here ∙ c.requires.wide c.args.place [] c.requires.place) c.take_from.ensures.value);
        now_is =
            ap (cut kept.width kept.count) (with_items_is kept.amounts written (long ∙ (sym c.self.invariant ∙ sym all)))
            ∙ written-set kept.width kept.count kept.amounts.items c.self.invariant c.args.self.now c.self.view_is c.args.place c.requires.place c.deref_mut.result.now lane c.deref_mut.ensures.value wide;
      };
    }

use Rattle.std.proofs.Common.{◌+◌, ◌-◌, ◌*◌, take, drop, arith}
use Rattle.kt_lanes.proofs.CutLemmas.{lane-here, place-inside}
use Rattle.kt_lanes.proofs.lanes.Lanes.lane.Goals as goal

pub overflow_mul-start : goal.overflow_mul-start
overflow_mul-start c =
    let kept = c.self.inside in
    record { fits = omega (arith, kept.amounts.ok, place-inside kept.width kept.count kept.amounts.items c.self.invariant c.args.self.now c.self.view_is c.args.place c.requires.place) }

pub overflow_add-result : goal.overflow_add-result
overflow_add-result c =
    let kept = c.self.inside in
    record { fits = omega (arith, kept.amounts.ok, place-inside kept.width kept.count kept.amounts.items c.self.invariant c.args.self.now c.self.view_is c.args.place c.requires.place) }

pub offset_bounds-deref-start : goal.offset_bounds-deref-start
offset_bounds-deref-start c =
    let kept = c.self.inside in
    record { fits = omega (arith, kept.amounts.ok, place-inside kept.width kept.count kept.amounts.items c.self.invariant c.args.self.now c.self.view_is c.args.place c.requires.place) }

pub slice_bounds-result-end : goal.slice_bounds-result-end
slice_bounds-result-end c =
    let kept = c.self.inside in
    let inside = place-inside kept.width kept.count kept.amounts.items c.self.invariant c.args.self.now c.self.view_is c.args.place c.requires.place in
    rw c.deref.ensures.value inside

pub returns : goal.returns
returns c =
    let kept = c.self.inside in
    let start = kept.width * c.args.place in
    record {
      value = lane-here kept.width kept.count kept.amounts.items c.self.invariant c.args.self.now c.self.view_is c.args.place c.requires.place c.deref.result.now c.deref.ensures.value (take (start + kept.width - start) (drop start c.deref.result.now));
    }

use Rattle.std.proofs.Common.{◌∙◌, slice_index, sym}
use Rattle.kt_lanes.specs.Lanes.{column}
use Rattle.kt_levels.proofs.LaneLemmas.{lane-in, mapped-all, mapped-more, mapped-none}
use Rattle.kt_levels.proofs.climbing.lanes_in.Goals as goal

pub loop-place-init : goal.loop-place-init
loop-place-init c = mapped-none c.args.width (λ k. slice_index (column k c.args.lanes.now)) c.args.places.now c.in_ok-found.found c.in_ok-found.ensures.value

pub lane-requires : goal.lane-requires
lane-requires c = record { place = c.requires.places c.loop-place.place-index _ c.loop-place-test.true }

pub push-requires : goal.push-requires
push-requires c =
    let inside = c.requires.places c.loop-place.place-index 0 c.loop-place-test.true in
    let is = lane-in c.args.width c.args.lanes.now _ c.lane.result.now c.requires.wide inside c.lane.ensures.value in
    record { wide = λ k d within. c.loop-place.invariant.wide k d within ∙ sym is.wide }

pub loop-place-preserved : goal.loop-place-preserved
loop-place-preserved c =
    let inside = c.requires.places c.loop-place.place-index 0 c.loop-place-test.true in
    mapped-more c.args.width (λ k. slice_index (column k c.args.lanes.now)) c.args.places.now c.loop-place.place-index 0 c.loop-place-test.true c.loop-place.found c.push.new.self c.lane.result.now c.loop-place.invariant
    (lane-in c.args.width c.args.lanes.now _ c.lane.result.now c.requires.wide inside c.lane.ensures.value)
    c.in_ok-push.ensures.ok

pub returns : goal.returns
returns c = record {
  value = mapped-all c.args.width (λ k. slice_index (column k c.args.lanes.now)) c.args.places.now c.loop-place.place-index c.loop-place.auto.place-index-end c.loop-place-test.false c.loop-place.found c.loop-place.invariant;
}

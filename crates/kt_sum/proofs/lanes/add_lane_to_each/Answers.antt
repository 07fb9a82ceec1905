use Rattle.std.proofs.Common.{◌+◌, ◌<◌, ◌∙◌, length, arith, refl, subst}
use Rattle.std.specs.Prelude.{All}
use Rattle.std.proofs.Math.Seq.{map-set_same}
use Rattle.std.proofs.lemmas.List.{take_all}
use Rattle.std.proofs.lemmas.List.Elements.{All-nil, All-set}
use Rattle.kt_sum.specs.SetSums.{AreReady, HoldLanes}
use Rattle.kt_sum.specs.declared.set_sums.SetSums.{SetSums}
use Rattle.kt_sum.proofs.SetSumsLemmas.{one_changed}
use Rattle.kt_sum.proofs.lanes.add_lane_to_each.Goals as goal

pub loop-at-init : goal.loop-at-init
loop-at-init c = record { sets = refl; ready = c.requires.ready; more = λ find are. (All-nil (HoldLanes find c.args.losses.now (c.args.place + 1)), are) }

pub add-requires : goal.add-requires
add-requires c = record { place = c.requires.place; some = c.requires.some; within = c.requires.within; ready = c.loop-at.invariant.ready c.loop-at.at c.index-sums-at.result (omega (arith, c.loop-at-test.true, c.loop-at.auto.sums)) }

pub loop-at-preserved : goal.loop-at-preserved
loop-at-preserved c =
    let sums = c.loop-at.sums in
    let at = c.loop-at.at in
    let item = c.index-sums-at.result in
    let now = c.add.new.self in
    let here = c.loop-at.invariant in
    let losses = c.args.losses.now in
    let place = c.args.place in
    let below : at < length sums = omega (arith, c.loop-at-test.true, c.loop-at.auto.sums) in
    record {
      sets = map-set_same (λ (one : SetSums). one.set) sums at now item c.add.ensures.set ∙ here.sets;
      ready = All-set (AreReady losses) sums at now c.add.ensures.ready here.ready;
      more = λ find are. one_changed (HoldLanes find losses place) (HoldLanes find losses (place + 1)) sums at item now below (here.more find are).0 (here.more find are).1 (c.add.ensures.more find);
    }

pub returns : goal.returns
returns c = record {
  sets = c.loop-at.invariant.sets;
  ready = c.loop-at.invariant.ready;
  more = λ find are. subst (All (HoldLanes find c.args.losses.now (c.args.place + 1))) (take_all c.loop-at.at c.loop-at.sums (omega (arith, c.loop-at-test.false, c.loop-at.auto.sums))) (c.loop-at.invariant.more find are).0;
}

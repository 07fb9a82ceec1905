use Rattle.std.proofs.Common.{◌≡◌, ◌∙◌, ℕ, length, arith, refl, subst}
use Rattle.std.specs.Prelude.{All}
use Rattle.kt_sum.specs.SetSums.{HoldLanes}
use Rattle.kt_sum.proofs.lanes.add_lanes.Goals as goal

pub loop-place-init : goal.loop-place-init
loop-place-init c = record { sets = refl; ready = c.requires.ready; all = λ find are. are }

pub loop-place-preserved : goal.loop-place-preserved
loop-place-preserved c = record {
  sets = c.add_lane_to_each.ensures.sets ∙ c.loop-place.invariant.sets;
  ready = c.add_lane_to_each.ensures.ready;
  all = λ find are. c.add_lane_to_each.ensures.more find (c.loop-place.invariant.all find are);
}

pub returns : goal.returns
returns c =
    let last : c.loop-place.place ≡ length c.args.losses.now.records = omega (arith, c.loop-place-test.false, c.loop-place.auto.place-end, c.len-place-end.ensures.value) in
    record {
      sets = c.loop-place.invariant.sets;
      ready = c.loop-place.invariant.ready;
      all = λ find are. subst (λ (count : ℕ). All (HoldLanes find c.args.losses.now count) c.loop-place.sums) last (c.loop-place.invariant.all find are);
    }

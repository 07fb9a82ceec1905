use Rattle.std.proofs.Common.{◌≡◌, ◌<◌, ◌^◌, ◌∙◌, ap, length, slice_index, arith}
use Rattle.std.proofs.lemmas.Nat.{le_or_l, le_or_r}
use Rattle.kt_lanes.specs.LaneLaws.{below-more, written-more}
use Rattle.kt_lanes.specs.Shares.{weight_or_one}
use Rattle.kt_lanes.proofs.parts.fill_weights.Goals as goal

pub loop-k-preserved : goal.loop-k-preserved
loop-k-preserved c =
    let k = c.loop-k.k in
    let weight = c.at_least_one-weight.result in
    let so_far = c.loop-k.invariant in
    let old = slice_index c.args.weights.now in
    let weight_is : weight ≡ weight_or_one (old k) = c.at_least_one-weight.ensures.value ∙ ap weight_or_one (so_far.weights.left k (omega arith) c.loop-k-test.true) in
    record {
      weights = written-more (length c.args.weights.now) k (λ j. weight_or_one (old j)) old c.loop-k.weights weight c.loop-k-test.true so_far.weights weight_is;
      narrow = λ fits.
          let before : c.loop-k.bits < 2 ^ 32 = omega (arith, fits, le_or_l c.loop-k.bits weight) in
          let here : weight_or_one (old k) < 2 ^ 32 = omega (arith, fits, le_or_r c.loop-k.bits weight, weight_is) in
          below-more (λ j. weight_or_one (old j) < 2 ^ 32) k (so_far.narrow before) here;
    }

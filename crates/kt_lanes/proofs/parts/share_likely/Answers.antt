use Rattle.std.proofs.Common.{◌≡◌, ◌<◌, ◌+◌, ◌^◌, ◌∙◌, ap, length, slice_index, arith}
use Rattle.std.proofs.lemmas.Nat.{le_or_l, le_or_r}
use Rattle.kt_money.specs.Sharing.{share_to}
use Rattle.kt_lanes.specs.LaneLaws.{below-more, written-more}
use Rattle.kt_lanes.specs.Shares.{less_wrapped}
use Rattle.kt_lanes.proofs.parts.share_likely.Goals as goal

pub loop-k-preserved : goal.loop-k-preserved
loop-k-preserved c =
    let k = c.loop-k.k in
    let width = length c.args.totals.now in
    let so_far = c.loop-k.invariant in
    let total = slice_index c.args.totals.now in
    let weights = slice_index c.args.weights.now in
    let lane = slice_index c.args.lane.now in
    let upto = slice_index c.args.upto.now in
    let paid = slice_index c.args.paid.now in
    let due = slice_index c.args.due.now in
    let given = slice_index c.loop-k.upto k + lane k in
    let before = slice_index c.loop-k.paid k in
    let given_is : given ≡ upto k + lane k = ap (λ n. n + lane k) (so_far.upto.left k (omega arith) c.loop-k-test.true) in
    let before_is : before ≡ paid k = so_far.share.left k (omega arith) c.loop-k-test.true in
    record {
      upto = written-more width k (λ j. upto j + lane j) upto c.loop-k.upto given c.loop-k-test.true so_far.upto given_is;
      share = written-more width k (λ j. less_wrapped (due j) (paid j)) paid c.loop-k.paid (less_wrapped (due k) before) c.loop-k-test.true so_far.share (ap (less_wrapped (due k)) before_is);
      right = λ fits.
          let bits = c.wrong_by-wrong.result in
          let earlier : c.loop-k.wrong < 2 ^ 32 = omega (arith, fits, le_or_l c.loop-k.wrong bits) in
          let few : bits < 2 ^ 32 = omega (arith, fits, le_or_r c.loop-k.wrong bits) in
          let here : due k ≡ share_to (total k) (weights k) given = c.wrong_by-wrong.ensures.value (c.requires.narrow k c.loop-k-test.true) few in
          below-more (λ j. due j ≡ share_to (total j) (weights j) (upto j + lane j)) k (so_far.right earlier) (here ∙ ap (share_to (total k) (weights k)) given_is);
    }

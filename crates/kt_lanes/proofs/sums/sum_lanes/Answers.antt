use Rattle.std.proofs.Common.{◌≡◌, ◌≤◌, ◌+◌, ◌-◌, ◌*◌, ◌/◌, length, subst, arith}
use Rattle.kt_lanes.specs.Lanes.{IsLane}
use Rattle.kt_lanes.specs.LaneLaws.{sum-le, sum_at}
use Rattle.kt_lanes.proofs.sums.sum_lanes.Goals as goal

pub sum_few-requires-clause-few : goal.sum_few-requires-clause-few
sum_few-requires-clause-few c = λ k less.
    let few = c.args.count - 4 * (c.saturating_sub-fours.result / 4) in
    omega (arith, c.requires.few k less, sum-le c.args.lanes.now c.args.start few c.args.count (omega arith) k)

pub loop-done-init : goal.loop-done-init
loop-done-init c =
    let few = c.args.count - 4 * (c.saturating_sub-fours.result / 4) in
    let none : few ≡ few + 4 * 0 = omega arith in
    subst (λ n. IsLane (length c.args.sums.now) (sum_at c.args.lanes.now c.args.start n) c.sum_few.new.sums) none c.sum_few.ensures.value

pub sum_four_more-requires-clause-few : goal.sum_four_more-requires-clause-few
sum_four_more-requires-clause-few c = λ k less.
    let few = c.args.count - 4 * (c.saturating_sub-fours.result / 4) in
    let more : few + 4 * c.loop-done.done + 4 ≤ c.args.count = omega (arith, c.loop-done-test.true, c.saturating_sub-fours.ensures) in
    omega (arith, c.requires.few k (omega (arith, less, c.loop-done.invariant.wide)), sum-le c.args.lanes.now c.args.start (few + 4 * c.loop-done.done + 4) c.args.count more k)

pub loop-done-preserved : goal.loop-done-preserved
loop-done-preserved c =
    let few = c.args.count - 4 * (c.saturating_sub-fours.result / 4) in
    let next : few + 4 * c.loop-done.done + 4 ≡ few + 4 * (c.loop-done.done + 1) = omega arith in
    subst (λ n. IsLane (length c.args.sums.now) (sum_at c.args.lanes.now c.args.start n) c.sum_four_more.new.sums) next
    (subst (λ n. IsLane n (sum_at c.args.lanes.now c.args.start (few + 4 * c.loop-done.done + 4)) c.sum_four_more.new.sums) c.loop-done.invariant.wide c.sum_four_more.ensures.value)

pub returns : goal.returns
returns c =
    let few = c.args.count - 4 * (c.saturating_sub-fours.result / 4) in
    let all : few + 4 * c.loop-done.done ≡ c.args.count = omega (arith, c.loop-done-test.false, c.loop-done.auto.done-end, c.saturating_sub-fours.ensures) in
    record { value = subst (λ n. IsLane (length c.args.sums.now) (sum_at c.args.lanes.now c.args.start n) c.loop-done.sums) all c.loop-done.invariant }

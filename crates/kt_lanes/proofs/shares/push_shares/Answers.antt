use Rattle.std.proofs.Common.{◌≡◌, ◌<◌, ◌≤◌, ◌+◌, ◌-◌, ◌^◌, ◌++◌, ◌∷◌, [], ◌∙◌, ℕ, List, Vec, Global, ap, drop, length, replicate, slice_index, slice_index_or, subst, take, sym, vec_len, arith, rules}
use Rattle.std.specs.Vec.{with_items}
use Rattle.std.proofs.lemmas.List.{length-replicate, with_items_is}
use Rattle.std.proofs.lemmas.Result.{IfOk-weaker}
use Rattle.std.specs.List.{sum}
use Rattle.kt_lanes.specs.Lanes.{column, AreWide, IsLane}
use Rattle.kt_lanes.specs.LaneLaws.{part-at, part-count}
use Rattle.kt_lanes.specs.Shares.{weight_or_one, ArePaid, AreSharingBehind, CanPay}
use Rattle.kt_lanes.specs.SharesLaws.{behind-begins, behind-ends, behind-goes, can-pay, last-enough, next-upto, none-counted, sharing-goes, sharing-last}
use Rattle.kt_lanes.proofs.shares.push_shares.Goals as goal
use Rattle.kt_lanes.proofs.shares.push_shares.Goals.{After-fill_weights-bits, After-lane-lane}

-- what all children have
weights-are : (c : After-fill_weights-bits) → IsLane (length c.args.totals.now) (λ k. weight_or_one (sum (column k (take c.args.count (drop c.args.start c.args.lanes.now))))) c.fill_weights-bits.new.weights
weights-are c =
    let weights = c.fill_weights-bits.ensures.weights in
    record {
      wide = weights.wide ∙ c.requires.weights.wide;
      each = λ k below. weights.each k (omega (arith, below, c.requires.weights.wide)) ∙ ap weight_or_one (c.requires.weights.each k below);
    }

-- the next child is one of them
lane-is : (c : After-lane-lane) → c.lane-lane.result.now ≡ slice_index_or (take c.args.count (drop c.args.start c.args.lanes.now)) c.loop-at.at c.lane-lane.result.now
lane-is c =
    let below : c.loop-at.at < c.args.count = omega (arith, c.loop-at-test.true) in
    c.lane-lane.ensures.value ∙ sym (part-at c.args.start c.args.count c.args.lanes.now c.loop-at.at c.lane-lane.result.now below)

-- its place is among them
inside-is : (c : After-lane-lane) → c.loop-at.at < length (take c.args.count (drop c.args.start c.args.lanes.now))
inside-is c = omega (arith, c.loop-at-test.true, part-count c.args.start c.args.count c.args.lanes.now c.requires.within)

-- a lane in the place of what a list has
kept : (old : Vec ℕ Global) (new : List ℕ) → length new ≡ length old.items → (with_items old new).items ≡ new
kept old new same =
    let all : vec_len old ≡ length old.items = search rules in
    with_items_is old new (same ∙ sym all)

pub loop-at-init : goal.loop-at-init
loop-at-init c =
    let totals = c.args.totals.now in
    let children = take c.args.count (drop c.args.start c.args.lanes.now) in
    let none = c.clear-2.new.lane in
    let none_is : none ≡ replicate (length totals) 0 = c.clear-2.ensures.value ∙ ap (λ n. replicate n 0) (ap length c.deref_mut.ensures.value ∙ c.requires.paid_wide) in
    let same : length none ≡ length c.args.paid.now.items = ap length none_is ∙ (length-replicate (length totals) 0 ∙ sym c.requires.paid_wide) in
    record {
      upto = none-counted totals children c.clear.new.lane (c.clear.ensures.value ∙ ap (λ n. replicate n 0) c.requires.upto_wide);
      due_wide = c.requires.due_wide;
      sharing = behind-begins totals children c.args.out.now _ c.requires.out (kept c.args.paid.now none same ∙ none_is);
    }

pub overflow_add-start : goal.overflow_add-start
overflow_add-start c = record { fits = omega (arith, c.len-all.ensures.value, c.requires.within, c.loop-at-test.true) }

pub share_next-requires-clause-can : goal.share_next-requires-clause-can
share_next-requires-clause-can c =
    let at = goal.at.share_next-requires-clause-can c in
    let so_far = c.loop-at.invariant.sharing in
    subst (λ (paid : List ℕ). CanPay c.args.totals.now c.fill_weights-bits.new.weights c.loop-at.upto c.lane-lane.result.now paid) (sym c.deref_mut-in-loop-at.ensures.value)
    (can-pay c.args.totals.now (take c.args.count (drop c.args.start c.args.lanes.now)) c.requires.can c.fill_weights-bits.new.weights (weights-are at.After-fill_weights-bits) c.loop-at.at (inside-is at.After-lane-lane) c.lane-lane.result.now (lane-is at.After-lane-lane) c.loop-at.upto c.loop-at.invariant.upto c.loop-at.paid.items so_far.shares so_far.sharing)

pub loop-at-preserved : goal.loop-at-preserved
loop-at-preserved c =
    let at = goal.at.loop-at-preserved c in
    let totals = c.args.totals.now in
    let children = take c.args.count (drop c.args.start c.args.lanes.now) in
    let weights = c.fill_weights-bits.new.weights in
    let weights_are = weights-are at.After-fill_weights-bits in
    let inside = inside-is at.After-lane-lane in
    let lane = c.lane-lane.result.now in
    let lane_is = lane-is at.After-lane-lane in
    let so_far = c.loop-at.invariant.sharing in
    let share = c.share_next.new.paid in
    let due = c.share_next.new.due in
    let paid = subst (λ (old : List ℕ). ArePaid totals weights c.loop-at.upto lane old c.share_next.new.upto due share) c.deref_mut-in-loop-at.ensures.value c.share_next.ensures.value in
    let share_is = kept c.loop-at.paid share (paid.share_is.wide ∙ sym so_far.sharing.paid_is.wide) in
    let due_is = kept c.loop-at.due due (paid.paid_is.wide ∙ sym c.loop-at.invariant.due_wide) in
    let pushed : c.push.new.self ≡ c.loop-at.out ++ share ∷ [] = c.in_ok-push.ensures.ok ∙ ap (λ (one : List ℕ). c.loop-at.out ++ one ∷ []) (c.deref.ensures.value ∙ share_is) in
    let now_due = ap (λ (one : Vec ℕ Global). one.items) c.swap.ensures.x_after ∙ due_is in
    record {
      upto = next-upto totals children c.requires.can weights weights_are c.loop-at.at inside lane lane_is c.loop-at.upto c.loop-at.invariant.upto c.share_next.new.upto paid.upto_is;
      due_wide = ap (λ (one : Vec ℕ Global). length one.items) c.swap.ensures.y_after ∙ (ap length share_is ∙ paid.share_is.wide);
      sharing =
          subst (λ (one : List ℕ). AreSharingBehind totals children (c.loop-at.at + 1) one c.args.out.now c.push.new.self) (sym now_due)
          (behind-goes totals children c.loop-at.at c.loop-at.paid.items c.args.out.now c.loop-at.out so_far share c.push.new.self pushed due paid.share_is.wide
          (sharing-goes totals children c.requires.can weights weights_are c.loop-at.at inside lane lane_is c.loop-at.upto c.loop-at.invariant.upto c.loop-at.paid.items so_far.shares so_far.sharing c.share_next.new.upto due share paid));
    }

pub take_paid-requires-clause-few : goal.take_paid-requires-clause-few
take_paid-requires-clause-few c =
    let totals = c.args.totals.now in
    let children = take c.args.count (drop c.args.start c.args.lanes.now) in
    let many : length children ≡ c.args.count = part-count c.args.start c.args.count c.args.lanes.now c.requires.within in
    let last : c.loop-at.at + 1 ≡ length children = omega (arith, c.requires.some, many, c.loop-at-test.false, c.loop-at.auto.at-end) in
    let so_far = c.loop-at.invariant.sharing in
    subst (λ (paid : List ℕ). (k : ℕ) → k < length paid → slice_index paid k ≤ slice_index totals k) (sym c.deref_mut-2.ensures.value)
    (last-enough totals children c.requires.can c.loop-at.at last c.loop-at.paid.items so_far.shares so_far.sharing)

pub returns-clause-value : goal.returns-clause-value
returns-clause-value c =
    let totals = c.args.totals.now in
    let children = take c.args.count (drop c.args.start c.args.lanes.now) in
    let many : length children ≡ c.args.count = part-count c.args.start c.args.count c.args.lanes.now c.requires.within in
    let last : c.loop-at.at + 1 ≡ length children = omega (arith, c.requires.some, many, c.loop-at-test.false, c.loop-at.auto.at-end) in
    let so_far = c.loop-at.invariant.sharing in
    let share = c.take_paid.new.paid in
    let left = subst (λ (paid : List ℕ). IsLane (length paid) (λ k. slice_index totals k - slice_index paid k) share) c.deref_mut-2.ensures.value c.take_paid.ensures.value in
    let share_is = kept c.loop-at.paid share left.wide in
    let shared = sharing-last totals children c.requires.can c.loop-at.at last c.loop-at.paid.items so_far.shares so_far.sharing share left in
    IfOk-weaker c.push-2.result _ _
    (λ (_ : Unit {0}) pushed. behind-ends totals children c.loop-at.at c.loop-at.paid.items c.args.out.now c.loop-at.out so_far share c.push-2.new.self (pushed ∙ ap (λ (one : List ℕ). c.loop-at.out ++ one ∷ []) (c.deref-2.ensures.value ∙ share_is)) c.args.count many shared)
    c.push-2.ensures.ok

pub share_next-requires-clause-narrow : goal.share_next-requires-clause-narrow
share_next-requires-clause-narrow c = λ few k below.
    let inside : k < length c.args.weights.now = omega (arith, below, c.requires.weights.wide) in
    subst (λ n. n < 2 ^ 32) (sym (c.fill_weights-bits.ensures.weights.each k inside)) (c.fill_weights-bits.ensures.narrow few k inside)

pub push-requires : goal.push-requires
push-requires c =
    let so_far = c.loop-at.invariant.sharing in
    let share = c.share_next.new.paid in
    let paid = subst (λ (old : List ℕ). ArePaid c.args.totals.now c.fill_weights-bits.new.weights c.loop-at.upto c.lane-lane.result.now old c.share_next.new.upto c.share_next.new.due share) c.deref_mut-in-loop-at.ensures.value c.share_next.ensures.value in
    let share_is = kept c.loop-at.paid share (paid.share_is.wide ∙ sym so_far.sharing.paid_is.wide) in
    record { wide = subst (λ n. AreWide n c.loop-at.out) (sym (ap length (c.deref.ensures.value ∙ share_is) ∙ paid.share_is.wide)) so_far.wide }

pub push-requires-2 : goal.push-requires-2
push-requires-2 c =
    let totals = c.args.totals.now in
    let so_far = c.loop-at.invariant.sharing in
    let share = c.take_paid.new.paid in
    let left = subst (λ (paid : List ℕ). IsLane (length paid) (λ k. slice_index totals k - slice_index paid k) share) c.deref_mut-2.ensures.value c.take_paid.ensures.value in
    let share_is = kept c.loop-at.paid share left.wide in
    record { wide = subst (λ n. AreWide n c.loop-at.out) (sym (ap length (c.deref-2.ensures.value ∙ share_is) ∙ (left.wide ∙ so_far.sharing.paid_is.wide))) so_far.wide }

pub returns-clause-paid_wide : goal.returns-clause-paid_wide
returns-clause-paid_wide c =
    let totals = c.args.totals.now in
    let so_far = c.loop-at.invariant.sharing in
    let share = c.take_paid.new.paid in
    let left = subst (λ (paid : List ℕ). IsLane (length paid) (λ k. slice_index totals k - slice_index paid k) share) c.deref_mut-2.ensures.value c.take_paid.ensures.value in
    let share_is = kept c.loop-at.paid share left.wide in
    ap length share_is ∙ (left.wide ∙ so_far.sharing.paid_is.wide)

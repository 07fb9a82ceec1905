use Rattle.std.proofs.Common.{◌≡◌, ℕ, ◌+◌, ◌-◌, ◌<◌, ◌≤◌, ◌^◌, List, length, slice_index, sym, ap, subst, ◌∙◌, arith}
use Rattle.kt_money.specs.Sharing.{share_to}
use Rattle.kt_lanes.specs.Lanes.{IsLane}
use Rattle.kt_lanes.specs.Shares.{less_wrapped, ArePaid, CanPart, CanPay}
use Rattle.kt_lanes.specs.SplitLaws.{part-most}
use Rattle.kt_lanes.proofs.parts.share_next.Goals as goal

module _ (totals weights upto lane paid upto_now : List ℕ) (can : CanPay totals weights upto lane paid) (now : IsLane (length totals) (λ k. slice_index upto k + slice_index lane k) upto_now) where
  -- what the first weights and one more are due
  abbrev due_at : ℕ → ℕ
  due_at k = share_to (slice_index totals k) (slice_index weights k) (slice_index upto k + slice_index lane k)

  -- it is the part of the weights that are counted now
  due-now : (k : ℕ) → k < length totals → share_to (slice_index totals k) (slice_index weights k) (slice_index upto_now k) ≡ due_at k
  due-now k below = ap (share_to (slice_index totals k) (slice_index weights k)) (now.each k below)

  -- one more is counted among the first
  can-part : CanPart totals weights upto_now
  can-part = record {
    weights_wide = can.weights_wide;
    upto_wide = now.wide;
    most = can.most;
    few = can.few;
    within = λ k below. subst (λ n. n ≤ slice_index weights k) (sym (now.each k below)) (can.within k below);
  }

  -- no more was paid than is due now
  enough-now : (k : ℕ) → k < length totals → slice_index paid k ≤ share_to (slice_index totals k) (slice_index weights k) (slice_index upto_now k)
  enough-now k below = subst (λ n. slice_index paid k ≤ n) (sym (due-now k below)) (can.enough k below)

  -- what was divided one by one
  divided : (due share : List ℕ) → IsLane (length totals) (λ k. share_to (slice_index totals k) (slice_index weights k) (slice_index upto_now k)) due
      → IsLane (length totals) (λ k. share_to (slice_index totals k) (slice_index weights k) (slice_index upto_now k) - slice_index paid k) share → ArePaid totals weights upto lane paid upto_now due share
  divided due share due_is share_is = record {
    upto_is = now;
    paid_is = record { wide = due_is.wide; each = λ k below. due_is.each k below ∙ due-now k below };
    share_is = record { wide = share_is.wide; each = λ k below. share_is.each k below ∙ ap (λ n. n - slice_index paid k) (due-now k below) };
  }

  -- nothing wraps where no more is taken
  not-wrapped : (n less : ℕ) → less ≤ n → n ≤ 10 ^ 16 → less_wrapped n less ≡ n - less
  not-wrapped n less most few = omega (arith, most, few)

  -- what is due is not above the weights
  due-few : (k : ℕ) → k < length totals → due_at k ≤ 10 ^ 16
  due-few k below = omega (arith, part-most (slice_index totals k) (slice_index weights k) (slice_index upto k + slice_index lane k) (can.within k below), can.most k below, can.few k below)

  -- what was likely and is right
  likely : (due share : List ℕ) → length due ≡ length totals → ((k : ℕ) → k < length totals → slice_index due k ≡ due_at k) → IsLane (length totals) (λ k. less_wrapped (slice_index due k) (slice_index paid k)) share
      → ArePaid totals weights upto lane paid upto_now due share
  likely due share wide right share_is = record {
    upto_is = now;
    paid_is = record { wide = wide; each = right };
    share_is = record {
      wide = share_is.wide;
      each = λ k below. share_is.each k below ∙ (ap (λ n. less_wrapped n (slice_index paid k)) (right k below) ∙ not-wrapped (due_at k) (slice_index paid k) (can.enough k below) (due-few k below));
    };
  }

-- one more is counted, where that is told of the lane of the first
counted : (totals upto lane upto_now : List ℕ) → length upto ≡ length totals → IsLane (length upto) (λ k. slice_index upto k + slice_index lane k) upto_now → IsLane (length totals) (λ k. slice_index upto k + slice_index lane k) upto_now
counted totals upto lane upto_now wide are = subst (λ n. IsLane n (λ k. slice_index upto k + slice_index lane k) upto_now) wide are

pub share_divided-requires-clause-can : goal.share_divided-requires-clause-can
share_divided-requires-clause-can c =
    can-part c.args.totals.now c.args.weights.now c.args.upto.now c.args.lane.now c.args.paid.now c.add_to.new.lane c.requires.can (counted c.args.totals.now c.args.upto.now c.args.lane.now c.add_to.new.lane c.requires.can.upto_wide c.add_to.ensures.value)

pub share_divided-requires-clause-few : goal.share_divided-requires-clause-few
share_divided-requires-clause-few c =
    enough-now c.args.totals.now c.args.weights.now c.args.upto.now c.args.lane.now c.args.paid.now c.add_to.new.lane c.requires.can (counted c.args.totals.now c.args.upto.now c.args.lane.now c.add_to.new.lane c.requires.can.upto_wide c.add_to.ensures.value)

pub returns-then-bits-ge-NARROW : goal.returns-then-bits-ge-NARROW
returns-then-bits-ge-NARROW c =
    let now = counted c.args.totals.now c.args.upto.now c.args.lane.now c.add_to.new.lane c.requires.can.upto_wide c.add_to.ensures.value in
    record { value = divided c.args.totals.now c.args.weights.now c.args.upto.now c.args.lane.now c.args.paid.now c.add_to.new.lane c.requires.can now c.share_divided.new.due c.share_divided.new.paid c.share_divided.ensures.due c.share_divided.ensures.share }

pub returns-then-share_likely-lt-NARROW : goal.returns-then-share_likely-lt-NARROW
returns-then-share_likely-lt-NARROW c = record {
  value =
      likely c.args.totals.now c.args.weights.now c.args.upto.now c.args.lane.now c.args.paid.now c.share_likely.new.upto c.requires.can c.share_likely.ensures.upto c.guess_due.new.due c.share_likely.new.paid (c.guess_due.ensures.wide ∙ c.requires.due_wide)
      (c.share_likely.ensures.value c.if-share_likely-lt-NARROW.true) c.share_likely.ensures.share;
}

pub share_divided-requires-2-clause-can : goal.share_divided-requires-2-clause-can
share_divided-requires-2-clause-can c = can-part c.args.totals.now c.args.weights.now c.args.upto.now c.args.lane.now c.args.paid.now c.share_likely.new.upto c.requires.can c.share_likely.ensures.upto

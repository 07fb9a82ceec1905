use Rattle.std.proofs.Common.{◌≡◌, ◌∙◌, ◌<◌, ◌≤◌, ◌^◌, ℕ, List, Vec, Global, length, slice_index, take, drop, sym, subst, vec_len, rules}
use Rattle.std.specs.Vec.{with_items}
use Rattle.std.specs.List.{sum}
use Rattle.std.proofs.lemmas.List.{with_items_is}
use Rattle.std.specs.Prelude.{OnOk}
use Rattle.std.proofs.lemmas.Result.{IfOk-weaker}
use Rattle.kt_money.specs.Sharing.{share_out}
use Rattle.kt_lanes.specs.Lanes.{column, AreWide, IsLane}
use Rattle.kt_lanes.specs.LaneLaws.{part-count, wide-part}
use Rattle.kt_lanes.specs.Shares.{CanShare}
use Rattle.kt_lanes.specs.SharesLaws.{whole-behind}
use Rattle.kt_lanes.specs.SideBySide.{AreBehind}
use Rattle.kt_lanes.proofs.shares.share_lanes.Goals as goal

pub returns-then-count-eq1-clause-value : goal.returns-then-count-eq1-clause-value
returns-then-count-eq1-clause-value c =
    let totals = c.args.totals.now in
    let children = take c.args.count (drop c.args.start c.args.lanes.now) in
    let one = part-count c.args.start c.args.count c.args.lanes.now c.requires.within ∙ c.if-count-eq1.true in
    IfOk-weaker c.push.result _ _
    (λ (_ : Unit {0}) pushed. subst (λ n. AreBehind (length totals) n (λ k. share_out (slice_index totals k) (column k children)) c.args.out.now c.push.new.self) (sym c.if-count-eq1.true)
    (whole-behind totals children c.args.out.now c.push.new.self one c.requires.backed pushed))
    c.push.ensures.ok

pub push_two-requires-clause-can : goal.push_two-requires-clause-can
push_two-requires-clause-can c =
    let two = c.if-count-eq2.true in
    let totals = c.args.totals.now in
    subst (λ n. CanShare totals (take n (drop c.args.start c.args.lanes.now))) two
    (record {
      wide = wide-part (length totals) c.args.lanes.now c.requires.wide c.args.start c.args.count;
      few = c.requires.few;
      backed = c.requires.backed;
    })

pub returns-then-count-eq2-clause-value : goal.returns-then-count-eq2-clause-value
returns-then-count-eq2-clause-value c =
    let totals = c.args.totals.now in
    subst (λ n. OnOk c.push_two.result (AreBehind (length totals) n (λ k. share_out (slice_index totals k) (column k (take n (drop c.args.start c.args.lanes.now)))) c.args.out.now c.push_two.new.out)) (sym c.if-count-eq2.true) c.push_two.ensures.value

pub push_shares-requires-clause-can : goal.push_shares-requires-clause-can
push_shares-requires-clause-can c = record {
  wide = wide-part (length c.args.totals.now) c.args.lanes.now c.requires.wide c.args.start c.args.count;
  few = c.requires.few;
  backed = c.requires.backed;
}

-- a lane in the place of what a list has
kept : (old : Vec ℕ Global) (new : List ℕ) → length new ≡ length old.items → (with_items old new).items ≡ new
kept old new same =
    let all : vec_len old ≡ length old.items = search rules in
    with_items_is old new (same ∙ sym all)

pub take_sums-requires-clause-wide : goal.take_sums-requires-clause-wide
take_sums-requires-clause-wide c =
    subst (λ (weights : List ℕ). AreWide (length weights) c.args.lanes.now) (sym c.deref_mut-2.ensures.value) (subst (λ n. AreWide n c.args.lanes.now) (sym c.requires.room.weights) c.requires.wide)

pub take_sums-requires-clause-few : goal.take_sums-requires-clause-few
take_sums-requires-clause-few c =
    let children = take c.args.count (drop c.args.start c.args.lanes.now) in
    subst (λ (weights : List ℕ). (k : ℕ) → k < length weights → sum (column k children) ≤ 10 ^ 16) (sym c.deref_mut-2.ensures.value)
    (subst (λ n. (k : ℕ) → k < n → sum (column k children) ≤ 10 ^ 16) (sym c.requires.room.weights) c.requires.few)

pub push_shares-requires-clause-weights : goal.push_shares-requires-clause-weights
push_shares-requires-clause-weights c =
    let totals = c.args.totals.now in
    let children = take c.args.count (drop c.args.start c.args.lanes.now) in
    let sums = c.take_sums.new.sums in
    let are = subst (λ (weights : List ℕ). IsLane (length weights) (λ k. sum (column k children)) sums) c.deref_mut-2.ensures.value c.take_sums.ensures.value in
    let is = c.deref_mut-3.ensures.value ∙ kept c.args.room.now.weights sums are.wide in
    subst (IsLane (length totals) (λ k. sum (column k children))) (sym is) (subst (λ n. IsLane n (λ k. sum (column k children)) sums) c.requires.room.weights are)

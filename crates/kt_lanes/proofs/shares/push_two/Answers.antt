use Rattle.std.proofs.Common.{◌≡◌, ◌∷◌, [], List, ℕ, drop, length, sym, subst, take, arith}
use Rattle.std.proofs.lemmas.Result.{IfOk-weaker}
use Rattle.kt_lanes.specs.Lanes.{AreWide}
use Rattle.kt_lanes.specs.LaneLaws.{All-more}
use Rattle.kt_lanes.specs.SplitLaws.{can-split, split-behind, two-lanes}
use Rattle.kt_lanes.proofs.shares.push_two.Goals as goal
use Rattle.kt_lanes.proofs.shares.push_two.Goals.{After-lane-second}

-- these are the children
children-are : (c : After-lane-second) → take 2 (drop c.args.start c.args.lanes.now) ≡ c.lane-first.result.now ∷ c.lane-second.result.now ∷ []
children-are c = two-lanes c.args.lanes.now c.args.start c.lane-first.result.now c.lane-second.result.now c.requires.within c.lane-first.ensures.value c.lane-second.ensures.value

pub overflow_add-start : goal.overflow_add-start
overflow_add-start c = record { fits = omega (arith, c.len-all.ensures.value, c.requires.within) }

pub split_totals-requires-clause-can : goal.split_totals-requires-clause-can
split_totals-requires-clause-can c =
    can-split c.args.totals.now c.lane-first.result.now c.lane-second.result.now (take 2 (drop c.args.start c.args.lanes.now)) (children-are (goal.at.split_totals-requires-clause-can c).After-lane-second) c.requires.can

pub push-requires-2 : goal.push-requires-2
push-requires-2 c = record {
  wide =
      subst (λ (n : ℕ). AreWide n c.push.new.self) (sym c.split_totals.ensures.value.rests_are.wide)
      (subst (AreWide (length c.args.totals.now)) (sym c.in_ok-push.ensures.ok)
      (All-more (λ (lane : List ℕ). length lane ≡ length c.args.totals.now) c.args.out.now c.split_totals.new.parts c.requires.out c.split_totals.ensures.value.parts_are.wide));
}

pub returns-clause-value : goal.returns-clause-value
returns-clause-value c =
    let children = take 2 (drop c.args.start c.args.lanes.now) in
    let first = c.lane-first.result.now in
    let second = c.lane-second.result.now in
    let same = children-are (goal.at.returns-clause-value c).After-lane-second in
    IfOk-weaker c.push-2.result _ _
    (λ (_ : Unit {0}) pushed. split-behind c.args.totals.now first second children same (can-split c.args.totals.now first second children same c.requires.can) c.split_totals.new.parts c.split_totals.new.rests c.split_totals.ensures.value c.args.out.now c.push.new.self c.push-2.new.self c.in_ok-push.ensures.ok pushed)
    c.push-2.ensures.ok

use Rattle.std.proofs.Common.{◌≡◌, ◌≤◌, ◌+◌, ◌∙◌, ℕ, List, ap, length, subst, sym, arith}
use Rattle.kt_lanes.specs.Lanes.{IsLane}
use Rattle.kt_lanes.specs.LaneLaws.{sum-next, sum-two, sum-three, sum-four, sum_at}
use Rattle.kt_lanes.proofs.sums.sum_few.Goals as goal
use Rattle.kt_lanes.proofs.sums.sum_few.Goals.{After-lane-first}

-- the first lane stands where they begin
begins : (n : ℕ) → n ≡ n + 0
begins n = omega arith

first-wide : (c : After-lane-first) → length c.lane-first.result.now ≡ length c.args.sums.now
first-wide c = ap (λ (one : List ℕ). length one) c.lane-first.ensures.value ∙ c.requires.wide c.args.start c.lane-first.result.now (omega (arith, c.requires.within, c.if-count-eq0.false))

pub copy_from_slice-requires : goal.copy_from_slice-requires
copy_from_slice-requires c = sym (first-wide (goal.at.copy_from_slice-requires c).After-lane-first)

pub returns-then-count-eq1 : goal.returns-then-count-eq1
returns-then-count-eq1 c =
    let start = c.args.start in
    let count = c.args.count in
    let first = c.lane-first.result.now in
    let within : start + 1 ≤ length c.args.lanes.now = omega (arith, c.requires.within, c.if-count-eq1.true) in
    record {
      value =
          subst (λ (lane : List ℕ). IsLane (length c.args.sums.now) (sum_at c.args.lanes.now start count) lane) (sym c.copy_from_slice.ensures.after)
          (record {
            wide = first-wide (goal.at.returns-then-count-eq1 c).After-lane-first;
            each = λ k less. omega (arith, sum-next c.args.lanes.now start 0 start (begins start) count (omega (arith, c.if-count-eq1.true)) (omega (arith, within)) first c.lane-first.ensures.value k);
          });
    }

pub put_two-requires-clause-few : goal.put_two-requires-clause-few
put_two-requires-clause-few c = λ k less. omega (arith, c.requires.few k less, sum-two c.args.lanes.now c.args.start 0 c.args.start (begins c.args.start) c.args.count (omega (arith, c.if-count-eq2.true)) c.requires.within c.lane-first.result.now c.lane-second.result.now c.lane-first.ensures.value c.lane-second.ensures.value k)

pub returns-then-count-eq2 : goal.returns-then-count-eq2
returns-then-count-eq2 c = record {
  value = record { wide = c.put_two.ensures.value.wide; each = λ k less. omega (arith, c.put_two.ensures.value.each k less, sum-two c.args.lanes.now c.args.start 0 c.args.start (begins c.args.start) c.args.count (omega (arith, c.if-count-eq2.true)) c.requires.within c.lane-first.result.now c.lane-second.result.now c.lane-first.ensures.value c.lane-second.ensures.value k) };
}

pub put_three-requires-clause-few : goal.put_three-requires-clause-few
put_three-requires-clause-few c = λ k less. omega (arith, c.requires.few k less, sum-three c.args.lanes.now c.args.start 0 c.args.start (begins c.args.start) c.args.count (omega (arith, c.if-count-eq3.true)) c.requires.within c.lane-first.result.now c.lane-second.result.now c.lane-first.ensures.value c.lane-second.ensures.value c.lane-third.result.now c.lane-third.ensures.value k)

pub returns-then-count-eq3 : goal.returns-then-count-eq3
returns-then-count-eq3 c = record {
  value = record { wide = c.put_three.ensures.value.wide; each = λ k less. omega (arith, c.put_three.ensures.value.each k less, sum-three c.args.lanes.now c.args.start 0 c.args.start (begins c.args.start) c.args.count (omega (arith, c.if-count-eq3.true)) c.requires.within c.lane-first.result.now c.lane-second.result.now c.lane-first.ensures.value c.lane-second.ensures.value c.lane-third.result.now c.lane-third.ensures.value k) };
}

pub put_four-requires-clause-few : goal.put_four-requires-clause-few
put_four-requires-clause-few c = λ k less. omega (arith, c.requires.few k less, sum-four c.args.lanes.now c.args.start 0 c.args.start (begins c.args.start) c.args.count (omega (arith, c.requires.most, c.if-count-eq0.false, c.if-count-eq1.false, c.if-count-eq2.false, c.if-count-eq3.false)) c.requires.within c.lane-first.result.now c.lane-second.result.now c.lane-first.ensures.value c.lane-second.ensures.value c.lane-third.result.now c.lane-third.ensures.value c.lane.result.now c.lane.ensures.value k)

pub returns : goal.returns
returns c = record {
  value = record { wide = c.put_four.ensures.value.wide; each = λ k less. omega (arith, c.put_four.ensures.value.each k less, sum-four c.args.lanes.now c.args.start 0 c.args.start (begins c.args.start) c.args.count (omega (arith, c.requires.most, c.if-count-eq0.false, c.if-count-eq1.false, c.if-count-eq2.false, c.if-count-eq3.false)) c.requires.within c.lane-first.result.now c.lane-second.result.now c.lane-first.ensures.value c.lane-second.ensures.value c.lane-third.result.now c.lane-third.ensures.value c.lane.result.now c.lane.ensures.value k) };
}

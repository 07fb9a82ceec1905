use Rattle.std.proofs.Common.{◌≤◌, ◌<◌, ◌∙◌, length, slice_index_or, subst, arith, None}
use Rattle.kt_runs.specs.Less.{IsPlaceIn}
use Rattle.kt_runs.proofs.LessLemmas.{less-none, less-records, less-some, less-start, none-is}
use Rattle.kt_runs.proofs.less.lessened.Goals as goal
use Rattle.kt_runs.proofs.less.lessened.Goals.{in-Some, in_default}

pub loop-at-init : goal.loop-at-init
loop-at-init c = less-start c.args.rows c.args.taken.now c.args.heads.now c.args.places.now c.args.lanes c.requires.have c.requires.apart c.requires.lanes

pub loop-at-preserved : goal.loop-at-preserved
loop-at-preserved c =
    let taken = c.args.taken.now in
    let places = c.args.places.now in
    let at = c.loop-at.at in
    let left = c.loop-at.left in
    let named : at < length places = omega (arith, c.loop-at-test.true, c.requires.places) in
    elim c.match-places-at.branch [
      | in-Some w ↦
          let from = w.in-Some.from in
          let within : from < length taken = subst (IsPlaceIn taken) w.in-Some.is (c.requires.within at None named) in
          rw w.left-is
          (less-some c.args.rows taken c.args.heads.now places c.args.lanes c.requires.have c.requires.apart c.requires.lanes at c.loop-at-test.true left c.loop-at.invariant c.requires.wide from w.in-Some.is within w.lane.result.now w.lane.ensures.value w.lessen.new.self
          w.lessen.ensures.value)
      | in_default w ↦
          rw w.left-is
          (less-none c.args.rows taken c.args.heads.now places c.args.lanes c.requires.have c.requires.apart c.requires.lanes at c.loop-at-test.true left c.loop-at.invariant (none-is (slice_index_or places at None) w.in_default.not-Some))
    ]

pub returns-clause-records : goal.returns-clause-records
returns-clause-records c =
    let past : length c.args.heads.now ≤ c.loop-at.at = omega (arith, c.loop-at-test.false) in
    c.of.ensures.records
    ∙ (c.in_ok-kept.ensures.value
    ∙ less-records c.args.rows c.args.taken.now c.args.heads.now c.args.places.now c.args.lanes c.requires.have c.requires.apart c.requires.lanes c.loop-at.at past c.loop-at.left c.loop-at.invariant c.requires.places)

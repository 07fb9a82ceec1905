use Rattle.std.proofs.Common.{◌∙◌, ◌++◌, ◌∷◌, List, [], OnErr, Result, Ok, Err, ap}
use Rattle.kt_runs.specs.LaneRun.{LaneRun}
use Rattle.kt_runs.specs.LossLanes.{lane_record, lane_records}
use Rattle.kt_runs.specs.declared.heads.LossHead.{LossHead}
use Rattle.kt_runs.proofs.LossLanesLemmas.{records-kept, records-more}
use Rattle.kt_runs.proofs.loss_lanes.LossLanes.keep.Goals as goal

-- what holds holds of an error
on-err : {X E : Type 0} (answer : Result X E) (P : Type 0) → P → OnErr answer P
on-err (Ok x) P is = tt
on-err (Err e) P is = is

pub returns-clause-ok : goal.returns-clause-ok
returns-clause-ok c =
    let kept = c.self.inside in
    let lane = c.args.lane.now in
    let head : LossHead = record { event = c.args.event; id = c.args.id; deviation = c.args.deviation; place = c.len-place.result } in
    ap (λ (heads : List LossHead). lane_records heads c.push.new.self) c.in_ok-push-2.ensures.items
    ∙ (ap (lane_records (kept.heads.items ++ head ∷ [])) c.in_ok-push.ensures.ok
    ∙ (records-more kept.heads.items kept.lanes c.self.invariant.have head lane c.len-place.ensures.value
    ∙ ap (λ (run : LaneRun). run.records ++ lane_record head lane ∷ []) c.self.view_is))

pub returns-in_err-push-2-clause-unchanged : goal.returns-in_err-push-2-clause-unchanged
returns-in_err-push-2-clause-unchanged c =
    let kept = c.self.inside in
    on-err c.from_residual-in_err-push-2.result _
    (ap (λ (heads : List LossHead). lane_records heads c.push.new.self) c.in_err-push-2.ensures.items
    ∙ (ap (lane_records kept.heads.items) c.in_ok-push.ensures.ok
    ∙ (records-kept kept.heads.items kept.lanes c.self.invariant.have c.args.lane.now ∙ ap (λ (run : LaneRun). run.records) c.self.view_is)))

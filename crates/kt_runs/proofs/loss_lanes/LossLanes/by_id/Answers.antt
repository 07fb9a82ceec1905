use Rattle.std.proofs.Common.{List, ap, subst}
use Rattle.std.specs.List.Sorted.{IsPermutation}
use Rattle.kt_runs.specs.LaneRun.{LaneRun}
use Rattle.kt_stream.specs.declared.entry.LossRecord.{LossRecord}
use Rattle.kt_runs.specs.LossLanes.{lane_records}
use Rattle.kt_runs.proofs.LossLanesLemmas.{sorted-have, sorted-moved, sorted-rises}
use Rattle.kt_runs.proofs.loss_lanes.LossLanes.by_id.Goals as goal

pub invariant_of-result : goal.invariant_of-result
invariant_of-result c =
    let kept = c.self.inside in
    record {
      few = c.self.invariant.few;
      have = sorted-have kept.heads.items c.sort_by_id.new.heads.items c.in_ok-sort_by_id.ensures.permutation kept.lanes c.self.invariant.have;
      wide = c.self.invariant.wide;
    }

pub returns-clause-permutation : goal.returns-clause-permutation
returns-clause-permutation c =
    let kept = c.self.inside in
    let heads = c.sort_by_id.new.heads.items in
    subst (λ (records : List LossRecord). IsPermutation records (lane_records heads kept.lanes)) (ap (λ (run : LaneRun). run.records) c.self.view_is)
    (sorted-moved kept.heads.items heads c.in_ok-sort_by_id.ensures.permutation kept.lanes)

pub returns-clause-rising : goal.returns-clause-rising
returns-clause-rising c =
    let kept = c.self.inside in
    sorted-rises kept.heads.items c.sort_by_id.new.heads.items c.in_ok-sort_by_id.ensures.permutation kept.lanes c.in_ok-sort_by_id.ensures.rising

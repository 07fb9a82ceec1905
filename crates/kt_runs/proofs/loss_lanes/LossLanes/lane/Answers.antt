use Rattle.std.proofs.Common.{◌∙◌, [], length, slice_index_or, ap, arith}
use Rattle.std.proofs.lemmas.List.{get_or_read}
use Rattle.kt_runs.specs.LaneRun.{LaneRun}
use Rattle.kt_runs.specs.LossLanes.{lane_record}
use Rattle.kt_runs.proofs.LossLanesLemmas.{head-below, kept-pairs, read-inside, read-record}
use Rattle.kt_runs.proofs.loss_lanes.LossLanes.lane.Goals as goal

pub index-requires : goal.index-requires
index-requires c = omega (arith, c.self.inside.heads.ok, head-below c.self.inside c.args.self.now c.self.view_is c.args.place c.requires.place)

pub lane-requires : goal.lane-requires
lane-requires c = record { place = read-inside c.self.inside c.args.self.now c.self.view_is c.args.place c.requires.place c.index.result.now c.index.ensures c.self.invariant.have }

pub returns : goal.returns
returns c =
    let kept = c.self.inside in
    let run = c.args.self.now in
    let head = c.index.result.now in
    let lane = c.lane.result.now in
    let inside = read-inside kept run c.self.view_is c.args.place c.requires.place head c.index.ensures c.self.invariant.have in
    let is = get_or_read kept.lanes head.place lane inside c.lane.ensures.value [] in
    let same = read-record kept run c.self.view_is c.args.place c.requires.place head c.index.ensures in
    record {
      rows = ap length is ∙ (c.self.invariant.wide head.place [] inside ∙ ap (λ (run : LaneRun). run.rows) c.self.view_is);
      few = omega (arith, ap (λ (run : LaneRun). run.rows) c.self.view_is, c.self.invariant.few);
      pairs = λ d. kept-pairs (slice_index_or run.records c.args.place d) head lane (ap (lane_record head) is ∙ same d);
    }

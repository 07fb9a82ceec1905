use Rattle.std.proofs.Common.{length, ap, arith}
use Rattle.kt_runs.specs.LaneRun.{LaneRun}
use Rattle.kt_runs.proofs.LossLanesLemmas.{records-length}
use Rattle.kt_runs.proofs.loss_lanes.LossLanes.len.Goals as goal

pub returns : goal.returns
returns c =
    let kept = c.self.inside in
    record { value = omega (arith, c.len.ensures, kept.heads.ok, records-length kept.heads.items kept.lanes, ap (λ (run : LaneRun). length run.records) c.self.view_is) }

use Rattle.std.proofs.Common.{◌∙◌, ◌++◌, List, ap}
use Rattle.std.proofs.lemmas.Result.{IfOk-weaker}
use Rattle.kt_stream.specs.declared.entry.LossRecord.{LossRecord}
use Rattle.kt_runs.specs.LaneRows.{pairs_with}
use Rattle.kt_runs.proofs.LossLanesLemmas.{record-none, record-some}
use Rattle.kt_runs.proofs.loss_lanes.LossLanes.put_with.Goals as goal

pub returns-then-not-has_losses-clause-ok : goal.returns-then-not-has_losses-clause-ok
returns-then-not-has_losses-clause-ok c = record-none c.args.event c.args.id (pairs_with c.args.deviation c.args.lane.now) (c.has_losses.ensures.none c.if-not-has_losses.true) c.args.self.now.records

pub returns-clause-ok : goal.returns-clause-ok
returns-clause-ok c =
    IfOk-weaker c.keep.result _ _
    (λ (_ : Unit {0}) kept.
    kept
    ∙ ap (λ (more : List LossRecord). c.args.self.now.records ++ more) (record-some c.args.event c.args.id (pairs_with c.args.deviation c.args.lane.now) (c.has_losses.ensures.some c.if-not-has_losses.false)))
    c.keep.ensures.ok

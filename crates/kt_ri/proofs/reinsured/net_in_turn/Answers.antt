use Rattle.std.proofs.Common.{◌∙◌, true}
use Rattle.std.proofs.lemmas.Result.{IfOk-weaker}
use Rattle.kt_fmtree.specs.Struck.{struck}
use Rattle.kt_runs.specs.LaneRun.{LaneRun}
use Rattle.kt_runs.specs.Records.{ids_of}
use Rattle.kt_ri.proofs.StageLemmas.{net-stream}
use Rattle.kt_ri.proofs.StruckLemmas.{behind-struck}
use Rattle.kt_ri.proofs.reinsured.net_in_turn.Goals as goal

pub returns-clause-net : goal.returns-clause-net
returns-clause-net c =
    let records = c.args.losses.records in
    IfOk-weaker c.lanes_left.result _ _
    (λ (made : LaneRun) made_are tree is.
    made_are (struck tree (ids_of records)) c.args.rule (c.in_ok-ceding.ensures.value tree is) c.in_ok-ceded.ensures.value ∙ behind-struck tree is.is.is c.args.rule c.args.samples records true)
    c.lanes_left.ensures.value

pub returns-clause-good : goal.returns-clause-good
returns-clause-good c =
    let records = c.args.losses.records in
    IfOk-weaker c.lanes_left.result _ _ (λ (made : LaneRun) net. (net-stream c.args.stage.now c.requires.stage c.args.rule c.args.samples records c.requires.records c.requires.within made.records net).0) (returns-clause-net c)

pub returns-clause-within : goal.returns-clause-within
returns-clause-within c =
    let records = c.args.losses.records in
    IfOk-weaker c.lanes_left.result _ _ (λ (made : LaneRun) net. (net-stream c.args.stage.now c.requires.stage c.args.rule c.args.samples records c.requires.records c.requires.within made.records net).1) (returns-clause-net c)

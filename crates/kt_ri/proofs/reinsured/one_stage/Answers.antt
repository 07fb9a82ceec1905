use Rattle.std.proofs.Common.{◌∙◌, map, true, false}
use Rattle.std.proofs.lemmas.Result.{IfOk-weaker}
use Rattle.kt_fmtree.specs.Struck.{struck}
use Rattle.kt_runs.specs.Records.{ids_of}
use Rattle.kt_ri.specs.declared.reinsured.Reinsured.{Reinsured}
use Rattle.kt_ri.proofs.StageLemmas.{net-stream}
use Rattle.kt_ri.proofs.StruckLemmas.{behind-struck}
use Rattle.kt_ri.proofs.reinsured.one_stage.Goals as goal

pub returns-clause-net : goal.returns-clause-net
returns-clause-net g c =
    let records = map g.T.RunEntry.entry_of c.args.records.now in
    IfOk-weaker c.both_behind.result _ _
    (λ (made : Reinsured) made_are tree is.
    made_are (struck tree (ids_of records)) c.args.rule (c.in_ok-ceding.ensures.value tree is) c.in_ok-shares.ensures.value ∙ behind-struck tree is.is.is c.args.rule c.args.samples records true)
    c.both_behind.ensures.net

pub returns-clause-ceded : goal.returns-clause-ceded
returns-clause-ceded g c =
    let records = map g.T.RunEntry.entry_of c.args.records.now in
    IfOk-weaker c.both_behind.result _ _
    (λ (made : Reinsured) made_are tree is.
    made_are (struck tree (ids_of records)) c.args.rule (c.in_ok-ceding.ensures.value tree is) c.in_ok-shares.ensures.value ∙ behind-struck tree is.is.is c.args.rule c.args.samples records false)
    c.both_behind.ensures.ceded

pub returns-clause-good : goal.returns-clause-good
returns-clause-good g c =
    let records = map g.T.RunEntry.entry_of c.args.records.now in
    IfOk-weaker c.both_behind.result _ _ (λ (made : Reinsured) net. (net-stream c.args.stage.now c.requires.stage c.args.rule c.args.samples records c.requires.records c.requires.within made.net net).0) (returns-clause-net g c)

pub returns-clause-within : goal.returns-clause-within
returns-clause-within g c =
    let records = map g.T.RunEntry.entry_of c.args.records.now in
    IfOk-weaker c.both_behind.result _ _ (λ (made : Reinsured) net. (net-stream c.args.stage.now c.requires.stage c.args.rule c.args.samples records c.requires.records c.requires.within made.net net).1) (returns-clause-net g c)

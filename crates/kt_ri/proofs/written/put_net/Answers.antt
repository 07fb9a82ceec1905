use Rattle.std.proofs.Common.{◌++◌, ◌∙◌, true, List, map, ap}
use Rattle.std.specs.List.{flat_map}
use Rattle.std.proofs.lemmas.Result.{IfOk-weaker}
use Rattle.kt_stream.specs.Losses.{loss_bytes}
use Rattle.kt_stream.specs.declared.entry.LossRecord.{LossRecord}
use Rattle.kt_fmtree.specs.Struck.{struck}
use Rattle.kt_runs.specs.Records.{ids_of}
use Rattle.kt_ri.proofs.StruckLemmas.{behind-struck}
use Rattle.kt_ri.proofs.written.put_net.Goals as goal

pub returns-clause-ok : goal.returns-clause-ok
returns-clause-ok g c =
    let records = map g.T.RunEntry.entry_of c.args.records.now in
    IfOk-weaker c.put_behind.result _ _
    (λ (_ : Unit {0}) put tree is.
    put (struck tree (ids_of records)) c.args.rule (c.in_ok-ceding.ensures.value tree is) c.in_ok-ceded.ensures.value
    ∙ ap (λ (made : List LossRecord). c.args.out.now ++ flat_map loss_bytes made) (behind-struck tree is.is.is c.args.rule c.args.samples records true))
    c.put_behind.ensures.ok

use Rattle.std.proofs.Common.{◌++◌, ◌∙◌, List, map, ap}
use Rattle.std.specs.List.{flat_map}
use Rattle.std.proofs.lemmas.Result.{IfOk-weaker}
use Rattle.kt_stream.specs.Losses.{loss_bytes}
use Rattle.kt_stream.specs.declared.entry.LossRecord.{LossRecord}
use Rattle.kt_fmtree.specs.Struck.{struck}
use Rattle.kt_fmtree.specs.Programme.{tree_of}
use Rattle.kt_alloc.specs.Insured.{insured_records}
use Rattle.kt_alloc.proofs.StruckLemmas.{records-struck}
use Rattle.kt_alloc.proofs.run.put_insured.Goals as goal

pub programme_for-requires : goal.programme_for-requires
programme_for-requires g c = record { structure = record { tree = tree_of c.args.portfolio.now.rows 0; is = c.requires.structure } }

pub put_of-requires-clause-layout : goal.put_of-requires-clause-layout
put_of-requires-clause-layout g c = λ tree is. c.in_ok-programme.ensures.layout tree c.args.portfolio.now.rows.fm_xref is c.requires.outputs

pub returns-clause-ok : goal.returns-clause-ok
returns-clause-ok g c =
    let tree = tree_of c.args.portfolio.now.rows 0 in
    let entries = map g.T.RunEntry.entry_of c.args.records.now in
    let outputs = c.args.portfolio.now.rows.fm_xref in
    IfOk-weaker c.put_of.result _ _
    (λ (_ : Unit {0}) put.
    put (struck tree c.deref.result.now) (c.in_ok-programme.ensures.programme tree c.requires.structure)
    ∙ ap (λ (made : List LossRecord). c.args.out.now ++ flat_map loss_bytes made)
    ((λ i. insured_records (struck tree ((c.deref.ensures.value ∙ c.in_ok-ids.ensures.value) i)) (c.in_ok-programme.ensures.rule i) c.args.samples outputs entries)
    ∙ records-struck tree c.requires.structure.is c.args.rule c.args.samples entries outputs))
    c.put_of.ensures.ok

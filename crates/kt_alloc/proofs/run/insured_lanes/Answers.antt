use Rattle.std.proofs.Common.{◌≡◌, ◌∙◌, List, sym, subst, All}
use Rattle.std.proofs.lemmas.Result.{IfOk-weaker}
use Rattle.kt_stream.specs.Losses.{IsLoss}
use Rattle.kt_stream.specs.declared.entry.LossRecord.{LossRecord}
use Rattle.kt_fmtree.specs.Struck.{struck}
use Rattle.kt_fmtree.specs.Programme.{tree_of}
use Rattle.kt_alloc.specs.Insured.{insured_records, layer_sums}
use Rattle.kt_alloc.specs.declared.made.InsuredLanes.{InsuredLanes}
use Rattle.kt_block.specs.declared.layer_sum.LayerSum.{LayerSum}
use Rattle.kt_alloc.proofs.GoodLemmas.{insured-good, sums-whole}
use Rattle.kt_alloc.proofs.StruckLemmas.{records-struck, sums-struck}
use Rattle.kt_alloc.proofs.run.insured_lanes.Goals as goal

pub programme_for-requires : goal.programme_for-requires
programme_for-requires g c = record { structure = record { tree = tree_of c.args.portfolio.now.rows 0; is = c.requires.structure } }

pub lanes_by-requires-clause-layout : goal.lanes_by-requires-clause-layout
lanes_by-requires-clause-layout g c = λ tree is. c.in_ok-programme.ensures.layout tree c.args.portfolio.now.rows.fm_xref is c.requires.outputs

pub returns-clause-records : goal.returns-clause-records
returns-clause-records g c =
    let tree = tree_of c.args.portfolio.now.rows 0 in
    let entries = g.R.RunLosses.records_of c.args.run.now in
    let outputs = c.args.portfolio.now.rows.fm_xref in
    IfOk-weaker c.lanes_by.result _ _
    (λ (made : InsuredLanes) records_are.
    records_are (struck tree c.deref.result.now) (c.in_ok-programme.ensures.programme tree c.requires.structure)
    ∙ ((λ i. insured_records (struck tree ((c.deref.ensures.value ∙ c.in_ok-ids.ensures.value) i)) (c.in_ok-programme.ensures.rule i) c.args.samples outputs entries)
    ∙ records-struck tree c.requires.structure.is c.args.rule c.args.samples entries outputs))
    c.lanes_by.ensures.records

pub returns-clause-layers : goal.returns-clause-layers
returns-clause-layers g c =
    let tree = tree_of c.args.portfolio.now.rows 0 in
    let entries = g.R.RunLosses.records_of c.args.run.now in
    IfOk-weaker c.lanes_by.result _ _
    (λ (made : InsuredLanes) layers_are.
    layers_are (struck tree c.deref.result.now) (c.in_ok-programme.ensures.programme tree c.requires.structure)
    ∙ ((λ i. layer_sums (struck tree ((c.deref.ensures.value ∙ c.in_ok-ids.ensures.value) i)) (c.in_ok-programme.ensures.rule i) c.args.samples entries)
    ∙ sums-struck tree c.requires.structure.is c.args.rule c.args.samples entries))
    c.lanes_by.ensures.layers

pub returns-clause-conserved : goal.returns-clause-conserved
returns-clause-conserved g c =
    let tree = tree_of c.args.portfolio.now.rows 0 in
    IfOk-weaker c.lanes_by.result _ _
    (λ (made : InsuredLanes) layers_are.
    subst (λ (layers : List LayerSum). All (λ entry. entry.allocated ≡ entry.policy) layers) (sym layers_are)
    (sums-whole tree c.requires.structure.is c.args.rule c.args.samples (g.R.RunLosses.records_of c.args.run.now)))
    (returns-clause-layers g c)

pub returns-clause-good : goal.returns-clause-good
returns-clause-good g c =
    let tree = tree_of c.args.portfolio.now.rows 0 in
    IfOk-weaker c.lanes_by.result _ _
    (λ (made : InsuredLanes) records_are.
    subst (λ (records : List LossRecord). All (IsLoss c.args.samples) records) (sym records_are)
    (insured-good tree c.requires.structure.is c.args.rule c.args.samples c.args.portfolio.now.rows.fm_xref (g.R.RunLosses.records_of c.args.run.now) c.is_valid.ensures.valid.in_range.fm_xref c.requires.records c.requires.within))
    (returns-clause-records g c)

use Rattle.std.proofs.Common.{◌≤◌, length, map, sym, subst, arith}
use Rattle.std.proofs.lemmas.List.{length-map}
use Rattle.kt_runs.specs.HeldLaws.{entry_at}
use Rattle.kt_stream.specs.Losses.{IsLoss}
use Rattle.kt_runs.proofs.IdLemmas.{ids-end, ids-fit, ids-more, ids-start}
use Rattle.kt_runs.proofs.losses.id_lanes.Goals as goal

pub loop-near-init : goal.loop-near-init
loop-near-init g c = ids-start c.args.ids.now c.args.samples c.in_ok-lanes.lanes c.in_ok-lanes.ensures.value

pub add_record-requires-clause-entry : goal.add_record-requires-clause-entry
add_record-requires-clause-entry g c =
    let is = entry_at g.T.RunEntry.entry_of c.args.records.now c.loop-near.near c.index-records-near.result c.entry.result.now c.loop-near-test.true c.index-records-near.is c.entry.ensures c.entry.result.now in
    subst (IsLoss c.args.samples) (sym is) (c.requires.records c.loop-near.near c.entry.result.now (omega (arith, c.loop-near-test.true, length-map c.args.records.now g.T.RunEntry.entry_of)))

pub add_record-requires-clause-few : goal.add_record-requires-clause-few
add_record-requires-clause-few g c =
    let is = entry_at g.T.RunEntry.entry_of c.args.records.now c.loop-near.near c.index-records-near.result c.entry.result.now c.loop-near-test.true c.index-records-near.is c.entry.ensures c.entry.result.now in
    ids-fit c.args.ids.now c.args.samples _ c.loop-near.near _ _ (omega (arith, c.loop-near-test.true, length-map c.args.records.now g.T.RunEntry.entry_of)) is c.loop-near.lanes c.loop-near.invariant c.requires.within

pub loop-near-preserved : goal.loop-near-preserved
loop-near-preserved g c =
    let is = entry_at g.T.RunEntry.entry_of c.args.records.now c.loop-near.near c.index-records-near.result c.entry.result.now c.loop-near-test.true c.index-records-near.is c.entry.ensures c.entry.result.now in
    ids-more c.args.ids.now c.args.samples _ c.loop-near.near _ _ (omega (arith, c.loop-near-test.true, length-map c.args.records.now g.T.RunEntry.entry_of)) is c.loop-near.lanes c.loop-near.invariant c.add_record.new.lanes c.add_record.ensures.value

pub returns : goal.returns
returns g c =
    let records = map g.T.RunEntry.entry_of c.args.records.now in
    let past : length records ≤ c.loop-near.near = omega (arith, c.loop-near-test.false, length-map c.args.records.now g.T.RunEntry.entry_of) in
    record { value = ids-end c.args.ids.now c.args.samples records c.loop-near.near c.loop-near.lanes past c.loop-near.invariant }

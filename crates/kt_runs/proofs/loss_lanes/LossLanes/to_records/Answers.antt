use Rattle.std.proofs.Common.{[], arith, ◌∙◌, take_all}
use Rattle.kt_stream.specs.declared.entry.LossRecord.{LossRecord}
use Rattle.kt_runs.proofs.LossLanesLemmas.{records-next}
use Rattle.kt_runs.proofs.loss_lanes.LossLanes.to_records.Goals as goal

pub loop-place-preserved : goal.loop-place-preserved
loop-place-preserved c =
    let none : LossRecord = record { event = 0; id = 0; pairs = [] } in
    records-next c.args.self.now.records c.loop-place.place c.loop-place.made.items _ c.in_ok-record_at.field-0 none (omega (arith, c.loop-place-test.true, c.len-place-end.ensures.value)) c.loop-place.invariant c.in_ok-push.ensures.items (c.in_ok-record_at.ensures.value none)

pub returns : goal.returns
returns c = record { value = c.from_vec.ensures.value ∙ (c.loop-place.invariant ∙ take_all c.loop-place.place c.args.self.now.records (omega (arith, c.loop-place-test.false, c.len-place-end.ensures.value))) }

use Rattle.std.proofs.Common.{[], ap, arith, ◌∙◌, take_all}
use Rattle.kt_stream.specs.declared.entry.LossRecord.{LossRecord}
use Rattle.kt_runs.specs.Records.{ids_of}
use Rattle.kt_runs.proofs.LossLanesLemmas.{ids-next}
use Rattle.kt_runs.proofs.loss_lanes.LossLanes.ids.Goals as goal

pub loop-place-preserved : goal.loop-place-preserved
loop-place-preserved c =
    let none : LossRecord = record { event = 0; id = 0; pairs = [] } in
    ids-next c.args.self.now.records c.loop-place.place c.loop-place.ids.items _ c.id.result none (omega (arith, c.loop-place-test.true, c.len-place-end.ensures.value)) c.loop-place.invariant c.in_ok-push.ensures.items (c.id.ensures.value none)

pub returns : goal.returns
returns c = record { value = c.loop-place.invariant ∙ ap ids_of (take_all c.loop-place.place c.args.self.now.records (omega (arith, c.loop-place-test.false, c.len-place-end.ensures.value))) }

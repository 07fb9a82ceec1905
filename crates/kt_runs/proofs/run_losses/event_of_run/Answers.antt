use Rattle.std.proofs.Common.{◌∙◌, [], arith}
use Rattle.kt_stream.specs.declared.entry.LossRecord.{LossRecord}
use Rattle.kt_runs.proofs.LossLanesLemmas.{event-first, event-none}
use Rattle.kt_runs.proofs.run_losses.event_of_run.Goals as goal

pub returns-then-count-eq0 : goal.returns-then-count-eq0
returns-then-count-eq0 g c = record { value = event-none (g.R.RunLosses.records_of c.args.run.now) (omega (arith, c.if-count-eq0.true, c.count-count.ensures.value)) }

pub event_at-requires : goal.event_at-requires
event_at-requires g c = record { place = omega (arith, c.if-count-eq0.false, c.count-count.ensures.value) }

pub returns : goal.returns
returns g c =
    let none : LossRecord = record { event = 0; id = 0; pairs = [] } in
    record { value = c.event_at.ensures.value none ∙ event-first (g.R.RunLosses.records_of c.args.run.now) none (omega (arith, c.if-count-eq0.false, c.count-count.ensures.value)) }

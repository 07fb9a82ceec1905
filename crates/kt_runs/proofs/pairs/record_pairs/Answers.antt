use Rattle.std.proofs.Common.{◌∙◌, sym}
use Rattle.kt_runs.proofs.LossLanesLemmas.{no-deviation}
use Rattle.kt_runs.proofs.pairs.record_pairs.Goals as goal

pub returns-then-deviation-eq0 : goal.returns-then-deviation-eq0
returns-then-deviation-eq0 c = record { value = c.in_ok-behind.ensures.value ∙ sym (no-deviation c.args.deviation c.args.lane.now c.if-deviation-eq0.true) }

use Rattle.std.proofs.Common.{◌<◌, ◌∙◌, List, length, arith, subst, sym}
use Rattle.kt_stream.specs.declared.entry.Pair.{Pair}
use Rattle.kt_runs.proofs.LossLanesLemmas.{no-deviation, some-deviation}
use Rattle.kt_runs.proofs.loss_lanes.has_losses.Goals as goal

pub returns-then-deviation-gt0-clause-some : goal.returns-then-deviation-gt0-clause-some
returns-then-deviation-gt0-clause-some c = λ is. some-deviation c.args.deviation c.args.lane.now c.if-deviation-gt0.true

pub returns-clause-some : goal.returns-clause-some
returns-clause-some c = λ is. subst (λ (pairs : List Pair). 0 < length pairs) (sym (no-deviation c.args.deviation c.args.lane.now (omega (arith, c.if-deviation-gt0.false)))) (c.has_loss.ensures.some is)

pub returns-clause-none : goal.returns-clause-none
returns-clause-none c = λ is. no-deviation c.args.deviation c.args.lane.now (omega (arith, c.if-deviation-gt0.false)) ∙ c.has_loss.ensures.none is

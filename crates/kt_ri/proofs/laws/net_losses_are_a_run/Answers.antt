use Rattle.kt_rec.specs.RisingLaws.{rises-from_strict, strict-from_rises}
use Rattle.kt_ri.proofs.StageLemmas.{reinsured-event, reinsured-known, reinsured-rises}
use Rattle.kt_ri.proofs.laws.net_losses_are_a_run.Goals as goal

pub returns-clause-event : goal.returns-clause-event
returns-clause-event c = reinsured-event

pub returns-clause-rising : goal.returns-clause-rising
returns-clause-rising c = λ trees samples records rises. strict-from_rises _ (reinsured-rises trees samples records (rises-from_strict _ rises))

pub returns-clause-known : goal.returns-clause-known
returns-clause-known c = reinsured-known

use Rattle.kt_rec.specs.RisingLaws.{strict-from_rises}
use Rattle.kt_alloc.proofs.OrderLemmas.{insured-event, insured-known, insured-rises}
use Rattle.kt_alloc.proofs.laws.insured_losses_are_a_run.Goals as goal

pub returns-clause-event : goal.returns-clause-event
returns-clause-event c = insured-event

pub returns-clause-rising : goal.returns-clause-rising
returns-clause-rising c = λ tree rule samples outputs records. strict-from_rises _ (insured-rises tree rule samples outputs records)

pub returns-clause-known : goal.returns-clause-known
returns-clause-known c = insured-known

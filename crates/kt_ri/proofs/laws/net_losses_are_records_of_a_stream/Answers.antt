use Rattle.kt_ri.proofs.StageLemmas.{reinsured-good, reinsured-within}
use Rattle.kt_ri.proofs.laws.net_losses_are_records_of_a_stream.Goals as goal

pub returns-clause-good : goal.returns-clause-good
returns-clause-good c = reinsured-good

pub returns-clause-within : goal.returns-clause-within
returns-clause-within c = reinsured-within

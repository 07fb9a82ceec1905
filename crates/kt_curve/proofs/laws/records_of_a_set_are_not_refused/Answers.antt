use Rattle.kt_curve.specs.OwnStops.{own_not_stopped}
use Rattle.kt_curve.proofs.laws.records_of_a_set_are_not_refused.Goals as goal

pub returns : goal.returns
returns c = own_not_stopped

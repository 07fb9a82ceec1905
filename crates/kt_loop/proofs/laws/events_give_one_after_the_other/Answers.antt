use Rattle.kt_loop.proofs.laws.events_give_one_after_the_other.Goals as goal
use Rattle.kt_loop.specs.EventsGiven.{events_outcome}

pub returns : goal.returns
returns g c = λ key refuses closes form opening of events at. events_outcome key refuses form closes opening of events at

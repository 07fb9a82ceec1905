use Rattle.std.proofs.Common.{refl}
use Rattle.std.specs.Float.Ieee.{is_nan, of_bits}
use Rattle.kt_lanes.proofs.quotient.at_least_lift.Goals as goal

pub returns-else-x : goal.returns-else-x
unfolding is_nan of_bits
returns-else-x c = record { number = refl }

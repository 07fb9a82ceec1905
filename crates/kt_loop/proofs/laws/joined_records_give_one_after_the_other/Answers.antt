use Rattle.kt_loop.specs.Splitting.{given_joined}
use Rattle.kt_loop.proofs.laws.joined_records_give_one_after_the_other.Goals as goal

pub returns : goal.returns
returns g c = given_joined

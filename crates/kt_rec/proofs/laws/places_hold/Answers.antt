use Rattle.kt_rec.specs.PlaceLaws.{got, put_twice, stays}
use Rattle.kt_rec.proofs.laws.places_hold.Goals as goal

pub returns-clause-got : goal.returns-clause-got
returns-clause-got c = got

pub returns-clause-others : goal.returns-clause-others
returns-clause-others c = stays

pub returns-clause-twice : goal.returns-clause-twice
returns-clause-twice c = put_twice

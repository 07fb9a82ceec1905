use Rattle.kt_eve.proofs.PartLemmas.{parts-front}
use Rattle.kt_eve.proofs.laws.parts_make_a_front.Goals as goal

pub returns : goal.returns
returns c = parts-front

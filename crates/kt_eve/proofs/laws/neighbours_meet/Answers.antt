use Rattle.kt_eve.proofs.PartLemmas.{parts-meet}
use Rattle.kt_eve.proofs.laws.neighbours_meet.Goals as goal

pub returns : goal.returns
returns c = parts-meet

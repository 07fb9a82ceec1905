use Rattle.kt_eve.proofs.PartLemmas.{parts-whole}
use Rattle.kt_eve.proofs.laws.parts_make_the_events.Goals as goal

pub returns : goal.returns
returns c = parts-whole

use Rattle.kt_schema.proofs.CanonLemmas.{texts_go_round as round_trip}
use Rattle.kt_schema.proofs.laws.texts_go_round.Goals as goal

pub returns : goal.returns
returns c = round_trip c.files_are_read_back.ensures c.texts_are_in_range.ensures

use Rattle.kt_footprint.proofs.RoundTripLemmas.{go_round}
use Rattle.kt_footprint.proofs.laws.footprints_go_round.Goals as goal

pub returns : goal.returns
returns c = go_round c.headers_are_read_back.ensures c.records_are_read_back.ensures c.texts_are_in_range.ensures

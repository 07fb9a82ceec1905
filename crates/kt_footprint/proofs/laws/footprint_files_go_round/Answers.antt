use Rattle.kt_footprint.proofs.GoRoundLemmas.{go_round}
use Rattle.kt_footprint.proofs.laws.footprint_files_go_round.Goals as goal

pub returns : goal.returns
returns c = go_round c.files_are_read_back.ensures c.texts_are_in_range.ensures c.footprints_go_round.ensures

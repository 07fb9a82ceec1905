use Rattle.kt_schema.proofs.CanonLemmas.{texts_read_back}
use Rattle.kt_schema.proofs.laws.texts_are_read_back.Goals as goal

pub returns : goal.returns
returns c = texts_read_back c.lines_are_read_back.ensures

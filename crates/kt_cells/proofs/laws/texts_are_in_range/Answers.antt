use Rattle.kt_cells.proofs.TextLemmas.{texts-in_range}
use Rattle.kt_cells.proofs.laws.texts_are_in_range.Goals as goal

pub returns : goal.returns
returns c = texts-in_range

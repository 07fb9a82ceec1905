use Rattle.kt_cells.proofs.WrittenLemmas.{slices}
use Rattle.kt_cells.proofs.laws.slices_give_slices.Goals as goal

pub returns : goal.returns
returns c = slices

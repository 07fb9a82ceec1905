use Rattle.kt_gen.proofs.ShownLemmas.{made-lines}
use Rattle.kt_gen.proofs.laws.made_files_are_shown.Goals as goal

pub returns : goal.returns
returns c = made-lines

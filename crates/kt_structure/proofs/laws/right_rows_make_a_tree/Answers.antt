use Rattle.kt_structure.specs.ProgrammeLaws.{tree_of-is}
use Rattle.kt_structure.proofs.laws.right_rows_make_a_tree.Goals as goal

pub returns : goal.returns
returns c = tree_of-is

use Rattle.kt_fmtree.specs.StruckLaws.{struck-is}
use Rattle.kt_fmtree.proofs.laws.the_struck_units_make_a_tree.Goals as goal

pub returns : goal.returns
returns c = struck-is

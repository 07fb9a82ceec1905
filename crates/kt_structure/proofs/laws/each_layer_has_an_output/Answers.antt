use Rattle.kt_structure.specs.OutputLaws.{outputs_of-tree}
use Rattle.kt_structure.proofs.laws.each_layer_has_an_output.Goals as goal

pub returns : goal.returns
returns c = outputs_of-tree

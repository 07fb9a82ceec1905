use Rattle.std.proofs.Common.{◌∙◌}
use Rattle.kt_fmtree.specs.PartsLaws.{layers-are}
use Rattle.kt_fmtree.proofs.programme.Programme.layers.Goals as goal

pub returns-clause-tree : goal.returns-clause-tree
returns-clause-tree c = λ tree is. c.layers_at.ensures.value ∙ layers-are tree _ is c.args.node c.requires

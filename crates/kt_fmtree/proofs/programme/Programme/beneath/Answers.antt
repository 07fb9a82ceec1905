use Rattle.std.proofs.Common.{◌∙◌}
use Rattle.kt_fmtree.specs.PartsLaws.{beneath-are}
use Rattle.kt_fmtree.proofs.programme.Programme.beneath.Goals as goal

pub returns-clause-tree : goal.returns-clause-tree
returns-clause-tree c = λ tree is. c.beneath_at.ensures.value ∙ beneath-are tree _ is c.args.node c.requires

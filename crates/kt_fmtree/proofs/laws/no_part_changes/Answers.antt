use Rattle.kt_fmtree.specs.StruckSharing.{allocated-struck}
use Rattle.kt_fmtree.proofs.laws.no_part_changes.Goals as goal

pub returns : goal.returns
returns c = allocated-struck

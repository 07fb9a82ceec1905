use Rattle.std.proofs.Common.{rules}
use Rattle.kt_eve.proofs.PartLemmas.{part-slice}
use Rattle.kt_eve.proofs.event_part.part.Goals as goal

pub returns : goal.returns
returns c = search (rules, part-slice)

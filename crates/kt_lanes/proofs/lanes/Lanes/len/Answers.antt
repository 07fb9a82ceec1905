use Rattle.std.proofs.Common.{◌∙◌, length, ap, sym}
use Rattle.kt_lanes.proofs.CutLemmas.{cut-count}
use Rattle.kt_lanes.proofs.lanes.Lanes.len.Goals as goal

pub returns : goal.returns
returns c = record { value = sym (cut-count c.self.inside.width c.self.inside.count c.self.inside.amounts.items) ∙ ap length c.self.view_is }

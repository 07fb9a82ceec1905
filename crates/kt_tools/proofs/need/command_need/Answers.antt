use Rattle.std.proofs.Common.{sym}
use Rattle.kt_tools.proofs.need.command_need.Goals as goal

pub returns-in-Gulcalc : goal.returns-in-Gulcalc
returns-in-Gulcalc c = rw c.in-Gulcalc.is (sym (c.sampling_need.ensures c.in-Gulcalc.cut))

use Rattle.std.proofs.Common.{length, ◌-◌, ◌≡◌}
use Rattle.kt_load.specs.Ends.{HasRead}
use Rattle.kt_load.proofs.file.fill.Given as goal

-- the bytes so far are those of the file, and the inputs are kept
abbrev pub invariant-loop-at : goal.invariant-loop-at
invariant-loop-at g l = HasRead (g.I.Inputs.state l.fn.inputs).held l.fn.name l.from (length l.fn.room) l.at l.room × (g.I.Inputs.state l.inputs ≡ g.I.Inputs.state l.fn.inputs)

abbrev pub decreases-loop-at : goal.decreases-loop-at
decreases-loop-at g l = length l.room - l.at

use Rattle.kt_outputs.proofs.hands.take_from.Goals as goal

pub returns-in-Ok : goal.returns-in-Ok
returns-in-Ok c wanted held = c.take_last.ensures wanted (rw c.in-Ok.is at held)

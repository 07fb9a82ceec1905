use Rattle.kt_outputs.proofs.MidwayLemmas.{midway_spilled, spill_stops}
use Rattle.kt_outputs.proofs.spill.spill.Goals as goal

pub returns-in-Ok-clause-moved : goal.returns-in-Ok-clause-moved
returns-in-Ok-clause-moved g c before whole rest midway =
    let pending = rw c.as_slice.ensures.value at c.in-Ok.ensures.moved in
    rw c.truncate.ensures.value (midway_spilled _ _ _ _ _ _ _ midway pending)

pub returns-in-Err-clause-moved : goal.returns-in-Err-clause-moved
returns-in-Err-clause-moved g c before whole rest midway =
    let pending = rw c.as_slice.ensures.value at c.in-Err.ensures.moved in
    spill_stops _ _ _ _ _ _ _ midway pending

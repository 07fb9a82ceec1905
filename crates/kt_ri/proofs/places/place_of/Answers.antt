use Rattle.kt_ri.proofs.PlaceLemmas.{missed}
use Rattle.kt_ri.proofs.places.place_of.Goals as goal

pub returns-in-Err : goal.returns-in-Err
returns-in-Err c = record { value = missed c.args.ids.now c.args.id c.in-Err.field-0 c.requires.rising c.in-Err.ensures.position }

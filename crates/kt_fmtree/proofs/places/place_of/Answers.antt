use Rattle.kt_rec.specs.RisingLaws.{not-missed}
use Rattle.kt_fmtree.proofs.places.place_of.Goals as goal

pub unreachable-requires : goal.unreachable-requires
unreachable-requires c = not-missed c.args.ids.now c.args.id c.in-Err.field-0 c.requires.rising c.requires.member c.in-Err.ensures.position

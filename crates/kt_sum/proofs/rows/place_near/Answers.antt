use Rattle.kt_rec.specs.RisingLaws.{not-missed}
use Rattle.kt_sum.proofs.rows.place_near.Goals as goal

pub unreachable-requires : goal.unreachable-requires
unreachable-requires c = not-missed c.args.summaries.now c.args.summary c.in-Err.field-0 c.requires.rising c.requires.there c.in-Err.ensures.position

use Rattle.kt_rec.specs.ByIdLaws.{with-missed}
use Rattle.kt_fmtree.proofs.by_id.add_to.Goals as goal

pub returns-in_default : goal.returns-in_default
returns-in_default c = record { value = with-missed c.args.ids.now c.args.amounts.now.items c.args.id c.args.amount c.in_default.field-0 c.requires.rising c.requires.same c.in_default.ensures.position }

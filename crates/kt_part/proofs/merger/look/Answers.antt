use Rattle.rtrb.specs.Ring.{received}
use Rattle.kt_claims.proofs.ArrivalLemmas.{moved}
use Rattle.kt_part.proofs.merger.look.Goals as goal

pub returns-in-Ok-clause-come : goal.returns-in-Ok-clause-come
returns-in-Ok-clause-come g c front back = moved c.args.inbox.now c.accept.new.self c.in-Ok.item (received c.args.lane.now) (received c.pop.new.self) front back c.in-Ok.ensures.ok.0 c.accept.ensures

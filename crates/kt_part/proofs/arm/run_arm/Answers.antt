use Rattle.kt_claims.specs.Arrivals.{IsMade}
use Rattle.kt_part.proofs.ArmLemmas.{begins, has-room, sends, ends}
use Rattle.kt_part.proofs.arm.run_arm.Goals as goal

pub loop-turn-init : goal.loop-turn-init
loop-turn-init g c = begins (IsMade (g.W.Work.gives c.args.work.now) (g.W.Work.lacks c.args.work.now)) c.args.count c.args.claims.now c.args.arm.now c.requires.ready

pub returns-in_default : goal.returns-in_default
returns-in_default g c = ends (IsMade (g.W.Work.gives c.args.work.now) (g.W.Work.lacks c.args.work.now)) c.args.count c.args.claims.now c.args.arm.now c.loop-turn.arm c.loop-turn._turn c.loop-turn.invariant c.claim.new.pass c.in_default.ensures.of c.in_default.ensures.drawn

pub push_reserved-requires : goal.push_reserved-requires
push_reserved-requires g c = (has-room (IsMade (g.W.Work.gives c.args.work.now) (g.W.Work.lacks c.args.work.now)) c.args.count c.args.claims.now c.args.arm.now c.loop-turn.arm c.loop-turn._turn c.loop-turn.invariant c.requires.few c.claim.new.pass c.in-Some.number c.in-Some.ensures.drawn, tt)

pub loop-turn-preserved : goal.loop-turn-preserved
loop-turn-preserved g c = sends (IsMade (g.W.Work.gives c.args.work.now) (g.W.Work.lacks c.args.work.now)) c.args.count c.args.claims.now c.args.arm.now c.loop-turn.arm c.loop-turn._turn c.loop-turn.invariant c.claim.new.pass
    (record { number = c.in-Some.number; block = c.make-block.result }) c.in-Some.ensures.of c.in-Some.ensures.drawn c.make-block.ensures c.push_reserved.new.self c.push_reserved.ensures.sent.0 c.push_reserved.ensures.sent.1 c.push_reserved.ensures.ring

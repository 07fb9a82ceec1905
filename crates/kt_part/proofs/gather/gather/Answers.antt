use Rattle.std.proofs.Common.{◌≡◌, ℕ, subst, arith}
use Rattle.kt_claims.specs.Arrivals.{IsMade}
use Rattle.kt_part.specs.Gathering.{AreGathered}
use Rattle.kt_part.proofs.GatherLemmas.{gathered-more, claimed-all, never-spoiled, all-held}
use Rattle.kt_part.proofs.gather.gather.Goals as goal

pub unreachable-requires : goal.unreachable-requires
unreachable-requires g c = let left = c.loop-worker.invariant.arms_left in let none = c.in_default.ensures.cases.0 in omega (arith, c.loop-worker-test.true)

pub unreachable-requires-in_default-pop : goal.unreachable-requires-in_default-pop
unreachable-requires-in_default-pop g c =
    let left = c.loop-worker.invariant.arms_left in let many = c.loop-worker.invariant.paired.many in let none = c.in_default-pop.ensures.cases.0 in omega (arith, c.loop-worker-test.true)

pub loop-worker-preserved : goal.loop-worker-preserved
loop-worker-preserved g c =
    let made = IsMade (g.W.Work.gives c.args._work.now) (g.W.Work.lacks c.args._work.now) in
    gathered-more made c.args.count c.args.claims.now c.args.workers c.loop-worker.arms.items c.pop.new.self.items c.loop-worker.ends.items c.pop-in-loop-worker.new.self.items c.in-Some.arm c.in-Some-pop.end c.loop-worker.pass c.join.new.pass
    c.loop-worker.inbox c.drain.new.inbox c.loop-worker._worker c.in-Some.ensures.items c.in-Some-pop.ensures.items c.loop-worker.invariant c.join.ensures.of c.join.ensures.claims c.join.ensures.left c.join.ensures.workers c.join.ensures.settled c.drain.ensures.come

pub unreachable-requires-then-is_spoiled : goal.unreachable-requires-then-is_spoiled
unreachable-requires-then-is_spoiled g c =
    let made = IsMade (g.W.Work.gives c.args._work.now) (g.W.Work.lacks c.args._work.now) in
    let all : c.loop-worker._worker ≡ c.args.workers = omega arith in
    let are = subst (λ (n : ℕ). AreGathered made c.args.count c.args.claims.now c.args.workers c.loop-worker.arms.items c.loop-worker.ends.items c.loop-worker.pass c.loop-worker.inbox n) all c.loop-worker.invariant in
    never-spoiled made c.args.count c.args.claims.now c.args.workers c.loop-worker.arms.items c.loop-worker.ends.items c.loop-worker.pass c.loop-worker.inbox c.requires.some c.requires.few are c.if-is_spoiled.true

pub returns-clause-claimed : goal.returns-clause-claimed
returns-clause-claimed g c =
    let made = IsMade (g.W.Work.gives c.args._work.now) (g.W.Work.lacks c.args._work.now) in
    let all : c.loop-worker._worker ≡ c.args.workers = omega arith in
    let are = subst (λ (n : ℕ). AreGathered made c.args.count c.args.claims.now c.args.workers c.loop-worker.arms.items c.loop-worker.ends.items c.loop-worker.pass c.loop-worker.inbox n) all c.loop-worker.invariant in
    claimed-all made c.args.count c.args.claims.now c.args.workers c.loop-worker.arms.items c.loop-worker.ends.items c.loop-worker.pass c.loop-worker.inbox c.requires.some c.requires.few are

pub returns-clause-held : goal.returns-clause-held
returns-clause-held g c =
    let made = IsMade (g.W.Work.gives c.args._work.now) (g.W.Work.lacks c.args._work.now) in
    let all : c.loop-worker._worker ≡ c.args.workers = omega arith in
    let are = subst (λ (n : ℕ). AreGathered made c.args.count c.args.claims.now c.args.workers c.loop-worker.arms.items c.loop-worker.ends.items c.loop-worker.pass c.loop-worker.inbox n) all c.loop-worker.invariant in
    all-held made c.args.count c.args.claims.now c.args.workers c.loop-worker.arms.items c.loop-worker.ends.items c.loop-worker.pass c.loop-worker.inbox c.requires.some c.requires.few are c.if-is_spoiled.false

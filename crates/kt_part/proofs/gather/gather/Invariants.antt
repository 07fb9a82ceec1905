use Rattle.kt_claims.specs.Arrivals.{IsMade}
use Rattle.kt_part.specs.Gathering.{AreGathered}
use Rattle.kt_part.proofs.gather.gather.Given as goal

abbrev pub invariant-loop-worker : goal.invariant-loop-worker
invariant-loop-worker g l = AreGathered (IsMade (g.W.Work.gives l._work) (g.W.Work.lacks l._work)) l.count l.claims l.workers l.arms.items l.ends.items l.pass l.inbox l._worker

use Rattle.kt_claims.specs.Arrivals.{IsMade}
use Rattle.kt_part.specs.Lanes.{IsWorking}
use Rattle.kt_part.proofs.arm.run_arm.Given as goal

abbrev pub invariant-loop-turn : goal.invariant-loop-turn
invariant-loop-turn g l = IsWorking l.claims (IsMade (g.W.Work.gives l.work) (g.W.Work.lacks l.work)) l.count l.initial.arm l.arm l._turn

use Rattle.kt_claims.specs.Arrivals.{HasCome, all_received}
use Rattle.kt_part.specs.Lanes.{AreSame}
use Rattle.kt_part.proofs.merger.look_over.Given as goal

abbrev pub invariant-loop-place : goal.invariant-loop-place
invariant-loop-place g l = record {
  same : AreSame l.fn.lanes l.lanes;
  come : HasCome l.fn.inbox (all_received l.fn.lanes) → HasCome l.inbox (all_received l.lanes);
}

use Rattle.kt_part.specs.Lanes.{AreLanes}
use Rattle.kt_claims.specs.Passes.{IsGivenOut}
use Rattle.kt_part.proofs.lanes.make_lanes.Given as goal

abbrev pub invariant-loop-worker : goal.invariant-loop-worker
invariant-loop-worker g l = record {
  given : IsGivenOut l.claims l.workers l._worker l.pass;
  lanes : AreLanes l.claims l._worker l.arms.items l.ends.items;
}

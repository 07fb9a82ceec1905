use Rattle.std.proofs.Common.{◌≡◌, arith}
use Rattle.kt_runs.specs.LossLanes.{place_at}
use Rattle.kt_runs.proofs.HeadLemmas.{each-more}
use Rattle.kt_runs.proofs.heads.are_in_turn.Goals as goal

pub loop-at-preserved : goal.loop-at-preserved
loop-at-preserved c = each-more (λ k. place_at c.args.heads.now k ≡ k) c.loop-at.at c.loop-at.invariant c.if-heads-at.false

pub returns : goal.returns
returns c = record {
  value = λ _. record {
    many = c.if-heads-count.false;
    each = λ k below. c.loop-at.invariant k (omega (arith, below, c.loop-at-test.false));
  };
}

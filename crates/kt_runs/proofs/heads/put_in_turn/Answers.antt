use Rattle.std.proofs.Common.{arith}
use Rattle.kt_runs.proofs.HeadLemmas.{turned-more, turned-start}
use Rattle.kt_runs.proofs.heads.put_in_turn.Goals as goal

pub loop-at-init : goal.loop-at-init
loop-at-init c = turned-start c.args.heads.now

pub loop-at-preserved : goal.loop-at-preserved
loop-at-preserved c = turned-more c.args.heads.now c.loop-at.at c.loop-at.heads (omega (arith, c.loop-at-test.true, c.loop-at.invariant.many)) c.loop-at.invariant

pub returns : goal.returns
returns c = record {
  many = c.loop-at.invariant.many;
  each = λ k below. c.loop-at.invariant.done k (omega (arith, below, c.loop-at-test.false, c.loop-at.invariant.many));
}

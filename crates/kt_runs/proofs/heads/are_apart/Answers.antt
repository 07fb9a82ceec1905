use Rattle.std.proofs.Common.{◌≡◌, ◌<◌, ◌≤◌, ◌+◌, ◌-◌, ℕ, arith, subst}
use Rattle.kt_runs.specs.LossLanes.{place_at}
use Rattle.kt_runs.proofs.HeadLemmas.{each-more}
use Rattle.kt_runs.proofs.heads.are_apart.Goals as goal

pub loop-at-preserved : goal.loop-at-preserved
loop-at-preserved c = each-more (λ k. 1 ≤ k → place_at c.args.heads.now (k - 1) < place_at c.args.heads.now k) c.loop-at.at c.loop-at.invariant (λ some. c.if-heads-at.false)

pub returns : goal.returns
returns c = record {
  value = λ _ k below.
      let same : k + 1 - 1 ≡ k = omega arith in
      subst (λ (n : ℕ). place_at c.args.heads.now n < place_at c.args.heads.now (k + 1)) same (c.loop-at.invariant (k + 1) (omega (arith, below, c.loop-at-test.false)) (omega arith));
}

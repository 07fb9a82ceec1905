-- The losses of one sample more.
use Rattle.std.proofs.Common.{◌++◌, ap, sym, subst, ◌∙◌, arith}
use Rattle.kt_period_cells.specs.SummaryRows.{IsSummary}
use Rattle.kt_curve.proofs.Curves.{samples_more, samples_all}
use Rattle.kt_curve.proofs.SampleLists.{own_losses, taken_losses}
use Rattle.kt_curve.proofs.sample_losses.append_samples.Goals as goal

pub take-requires-clause-group : goal.take-requires-clause-group
take-requires-clause-group c = subst IsSummary (sym c.loop-sample.invariant.same) c.requires.group

pub loop-sample-preserved : goal.loop-sample-preserved
loop-sample-preserved c =
    let now = c.loop-sample.invariant in
    let group = c.args.group.now in
    record {
      same = c.take.ensures.same ∙ now.same;
      losses =
          samples_more (own_losses c.args.ranks.now group) c.loop-sample.sample c.args.losses.now.items c.loop-sample.losses.items _ c.loop-sample.auto.sample now.losses
          (c.in_ok-append_ranked.ensures.ok ∙ ap (λ more. c.loop-sample.losses.items ++ more) (taken_losses c.loop-sample.samples group c.loop-sample.sample _ c.args.ranks.now c.requires.group now.same (c.as_mut_slice.ensures.value ∙ c.in_ok-values.ensures.value)));
    }

pub returns : goal.returns
returns c = record {
  ok = samples_all (own_losses c.args.ranks.now c.args.group.now) c.loop-sample.sample c.args.group.now.samples c.args.losses.now.items c.loop-sample.losses.items
      (omega (arith, c.requires.group.cells.some_samples, c.loop-sample.auto.sample-end (omega arith), c.loop-sample-test.false)) c.loop-sample.invariant.losses;
}

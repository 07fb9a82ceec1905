-- The sums of one sample more.
use Rattle.std.proofs.Common.{◌≡◌, ◌-◌, ◌+◌, ◌^◌, ℕ, List, map, slice_index, ap, ◌∙◌, arith, ℤ, pos, sum_by}
use Rattle.std.specs.List.{range_with_len}
use Rattle.std.proofs.lemmas.List.{get_or-map}
use Rattle.kt_period_cells.specs.SummaryRows.{group_entries}
use Rattle.kt_cell.specs.Amounts.{amount_at}
use Rattle.kt_ranks.specs.RankedLosses.{ranked_loss}
use Rattle.kt_curve.specs.Exceedance.{sidx_values}
use Rattle.kt_curve.proofs.Means.{sample_more, bound_more}
use Rattle.kt_curve.proofs.SampleLists.{sample_there, sample_within}
use Rattle.kt_curve.proofs.rank_curves.add_samples.Goals as goal

pub list_at-requires : goal.list_at-requires
list_at-requires c = sample_within c.args.ranks.now c.args.group.now c.args.losses.now c.requires.losses c.loop-sample.sample c.loop-sample.auto.sample c.loop-sample-test.true

pub loop-sample-preserved : goal.loop-sample-preserved
loop-sample-preserved c =
    let now = c.loop-sample.invariant in
    let group = c.args.group.now in
    let ranks = c.args.ranks.now in
    let sample = c.loop-sample.sample in
    record {
      len = c.add_values.ensures.len ∙ now.len;
      most = λ place. bound_more (2 ^ 64 - 1) sample _ _ c.loop-sample.auto.sample (now.most place) (c.add_values.ensures.most place);
      sums = λ place inside.
          let values : ℤ → List ℕ = sidx_values group.perspective group.set group.periods (amount_at group.maxima (group_entries group)) group.summary in
          let own = c.list_at.ensures.value ∙ sample_there ranks group c.args.losses.now c.requires.losses sample c.loop-sample.auto.sample c.loop-sample-test.true in
          sample_more (λ sidx. ranked_loss (values sidx) (slice_index ranks place)) sample _ _ c.loop-sample.auto.sample (now.sums place inside)
          (c.add_values.ensures.sums place ∙ ap (λ loss. slice_index c.loop-sample.sums place + loss) (ap (λ losses. slice_index losses place) own ∙ get_or-map (ranked_loss (values (pos sample))) ranks place 0 0 inside));
    }

pub returns-clause-sums : goal.returns-clause-sums
returns-clause-sums c = λ place inside.
    let group = c.args.group.now in
    let all : c.loop-sample.sample - 1 ≡ group.samples = omega (arith, c.requires.group.cells.some_samples, c.loop-sample.auto.sample-end (omega arith), c.loop-sample-test.false) in
    c.loop-sample.invariant.sums place inside
    ∙ ap (λ k. sum_by (λ sidx. ranked_loss (sidx_values group.perspective group.set group.periods (amount_at group.maxima (group_entries group)) group.summary sidx) (slice_index c.args.ranks.now place)) (map pos (range_with_len 1 k))) all

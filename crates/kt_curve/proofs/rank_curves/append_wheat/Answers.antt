-- The rows of one sample more.
use Rattle.std.proofs.Common.{◌≡◌, ℕ, List, length, sym, ap, ◌∙◌, arith, pos}
use Rattle.std.proofs.lemmas.List.{length-map}
use Rattle.kt_period_cells.specs.SummaryRows.{group_entries}
use Rattle.kt_cell.specs.Amounts.{amount_at}
use Rattle.kt_ranks.specs.RankedLosses.{curve_rows}
use Rattle.kt_curve.specs.Exceedance.{sidx_values}
use Rattle.kt_curve.specs.LossesOfSamples.{group_losses}
use Rattle.kt_curve.proofs.Curves.{rows_of_count, samples_more, samples_all}
use Rattle.kt_curve.proofs.Grids.{length_values}
use Rattle.kt_curve.proofs.SampleLists.{sample_there, sample_within}
use Rattle.kt_curve.proofs.rank_curves.append_wheat.Goals as goal

pub of_summary-losses-requires : goal.of_summary-losses-requires
of_summary-losses-requires c = c.requires.samples.within

pub list_at-own-requires : goal.list_at-own-requires
list_at-own-requires c =
    let are : c.of_summary-losses.result.now ≡ group_losses c.as_slice-ranks.result.now c.args.group.now = rw c.as_slice-ranks.ensures.value (c.of_summary-losses.ensures.value ∙ c.requires.samples.losses) in
    sample_within c.as_slice-ranks.result.now c.args.group.now c.of_summary-losses.result.now are c.loop-sample.sample c.loop-sample.auto.sample c.loop-sample-test.true

pub append_ranked_rows-requires-clause-asked : goal.append_ranked_rows-requires-clause-asked
append_ranked_rows-requires-clause-asked c = rw (c.loop-sample.invariant.places, c.as_slice-ranks.ensures.value) c.requires.samples.asked

pub append_ranked_rows-requires-clause-len : goal.append_ranked_rows-requires-clause-len
append_ranked_rows-requires-clause-len c =
    let are : c.of_summary-losses.result.now ≡ group_losses c.as_slice-ranks.result.now c.args.group.now = rw c.as_slice-ranks.ensures.value (c.of_summary-losses.ensures.value ∙ c.requires.samples.losses) in
    ap length (c.list_at-own.ensures.value ∙ sample_there c.as_slice-ranks.result.now c.args.group.now c.of_summary-losses.result.now are c.loop-sample.sample c.loop-sample.auto.sample c.loop-sample-test.true) ∙ length-map c.as_slice-ranks.result.now _

pub loop-sample-preserved : goal.loop-sample-preserved
loop-sample-preserved c =
    let group = c.args.group.now in
    let sample = c.loop-sample.sample in
    let values : ℕ → List ℕ = λ (sample : ℕ). sidx_values group.perspective group.set group.periods (amount_at group.maxima (group_entries group)) group.summary (pos sample) in
    let are : c.of_summary-losses.result.now ≡ group_losses c.as_slice-ranks.result.now group = rw c.as_slice-ranks.ensures.value (c.of_summary-losses.ensures.value ∙ c.requires.samples.losses) in
    let own = c.list_at-own.ensures.value ∙ sample_there c.as_slice-ranks.result.now group c.of_summary-losses.result.now are sample c.loop-sample.auto.sample c.loop-sample-test.true in
    let long : length (values sample) ≡ length c.loop-sample.placed = length_values group.perspective group.set group.periods group.summary (amount_at group.maxima (group_entries group)) (pos sample) ∙ sym c.loop-sample.invariant.places in
    record {
      places = c.append_ranked_rows.ensures.len ∙ c.loop-sample.invariant.places;
      rows =
          samples_more (λ (sample : ℕ). curve_rows group.summary sample group.periods (values sample) c.args.returns.now) sample c.args.out.now c.loop-sample.out _ c.loop-sample.auto.sample c.loop-sample.invariant.rows
          (rows_of_count _ _ _ _ _ _ (values sample) _ (c.in_ok-append_ranked_rows.ensures.ok (values sample) long own) c.loop-sample.invariant.places);
    }

pub returns-clause-ok : goal.returns-clause-ok
returns-clause-ok c =
    let group = c.args.group.now in
    samples_all (λ (sample : ℕ). curve_rows group.summary sample group.periods (sidx_values group.perspective group.set group.periods (amount_at group.maxima (group_entries group)) group.summary (pos sample)) c.args.returns.now)
    c.loop-sample.sample group.samples c.args.out.now c.loop-sample.out (omega (arith, c.requires.group.cells.some_samples, c.loop-sample.auto.sample-end (omega arith), c.loop-sample-test.false)) c.loop-sample.invariant.rows

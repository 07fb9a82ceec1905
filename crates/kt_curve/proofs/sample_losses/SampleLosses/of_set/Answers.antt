-- The losses of all summaries of the set.
use Rattle.std.proofs.Common.{◌++◌, ap, ◌∙◌, arith}
use Rattle.kt_curve.specs.LossesOfSamples.{set_losses}
use Rattle.kt_curve.proofs.sample_losses.SampleLosses.of_set.Goals as goal

pub ranks_of-requires-clause-count : goal.ranks_of-requires-clause-count
ranks_of-requires-clause-count c = omega (arith, (c.requires.part.groups 0).few, c.from.ensures)

pub returns : goal.returns
returns c = record {
  value = record {
    asked = rw c.from.ensures at c.in_ok-ranks.ensures.same;
    losses =
        c.in_ok-append_summaries.ensures.ok ∙ ap (λ none. none ++ set_losses c.as_slice.result.now c.args.part.now c.args.maxima c.summaries-summaries.result.now) c.in_ok-losses.ensures.items
        ∙ (λ i. set_losses (c.as_slice.ensures.value i) c.args.part.now c.args.maxima (c.summaries-summaries.ensures.value i));
  };
}

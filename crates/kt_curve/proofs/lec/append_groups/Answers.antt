-- The losses of the samples of one summary more.
use Rattle.kt_curve.proofs.SampleLists.{has_summary}
use Rattle.kt_curve.proofs.lec.append_groups.Goals as goal

pub append_group-requires-clause-samples : goal.append_group-requires-clause-samples
append_group-requires-clause-samples c = λ ranks.
    has_summary c.args.part.now c.args.maxima c.args.returns.now c.args.samples.now (c.requires.samples ranks) c.args.summaries.now c.requires.summaries c.loop-place.place c.loop-place-test.true
    c.summary-group.result c.summary-group.ensures.entries c.summary-group.ensures.of_set c.summary-group.ensures.size

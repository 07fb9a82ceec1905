-- The last list that was gathered is that of the sample.
use Rattle.std.proofs.Common.{◌∙◌, arith}
use Rattle.kt_period_cells.specs.SummaryRows.{group_entries}
use Rattle.kt_curve.proofs.Gathered.{taken_amounts, taken_of}
use Rattle.kt_curve.proofs.sample_amounts.SampleAmounts.take.Goals as goal

pub returns-clause-value : goal.returns-clause-value
returns-clause-value c =
    let cells = c.self.inside.cells in
    let last = c.max-last.result in
    taken_of cells c.args.self.now c.args.sample _ (c.self.view_is ∙ c.take_gathered.ensures.same)
    (c.into_amounts.ensures ∙ taken_amounts cells.maxima (group_entries cells) last c.args.sample c.in_ok-lists.lists.items c.pop.new.self.items c.in-Some-pop.found c.in-Some-pop.ensures.items (omega (arith, c.in_ok-lists.ensures.many, c.requires.some, c.max-last.ensures)) c.in_ok-lists.ensures.each)

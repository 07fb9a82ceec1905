-- The means of the sums are those of the ranks.
use Rattle.std.proofs.Common.{arith, ◌-◌, ◌*◌, ◌^◌, ◌∙◌}
use Rattle.std.proofs.lemmas.Grind.{common_steps}
use Rattle.kt_period_cells.specs.SummaryRows.{group_entries}
use Rattle.kt_cell.specs.Amounts.{amount_at}
use Rattle.kt_period_cells.specs.Outcomes.{if_ok}
use Rattle.kt_curve.proofs.Means.{all_places}
use Rattle.kt_curve.proofs.RankMeans.{ranked_means}
use Rattle.kt_curve.proofs.rank_curves.means_of_ranks.Goals as goal

pub add_samples-requires : goal.add_samples-requires
add_samples-requires c = grind (arith, common_steps)

pub means-requires-clause-most : goal.means-requires-clause-most
means-requires-clause-most c = all_places (c.args.group.now.samples * (2 ^ 64 - 1)) c.add_samples.new.sums (λ i inside. c.add_samples.ensures.most i)

pub returns : goal.returns
returns c = record {
  value =
      let group = c.args.group.now in
      if_ok _ _ c.means.result (λ found is. is ∙ ranked_means group.perspective group.set group.periods group.samples group.summary (amount_at group.maxima (group_entries group)) c.requires.group.cells.some_samples
      c.add_samples.new.sums c.args.ranks.now c.add_samples.ensures.len c.add_samples.ensures.sums) c.means.ensures.value;
}

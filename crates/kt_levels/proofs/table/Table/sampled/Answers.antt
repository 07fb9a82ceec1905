use Rattle.std.proofs.Common.{◌∙◌, slice_index}
use Rattle.kt_levels.specs.Row.{Shared, no_shares}
use Rattle.kt_levels.proofs.TableLemmas.{lane-few, lane-sampled}
use Rattle.kt_levels.proofs.table.Table.sampled.Goals as goal

pub sum_of-requires-clause-few : goal.sum_of-requires-clause-few
sum_of-requires-clause-few c = lane-few (λ (row : Shared). slice_index row.policies c.args.place) c.args.self.now c.policies.result.now c.policies.ensures.value (λ row below. (c.requires.place row no_shares below).policy_few)

pub returns-clause-policy : goal.returns-clause-policy
returns-clause-policy c = c.sum_of.ensures.value ∙ lane-sampled (λ (row : Shared). slice_index row.policies c.args.place) c.args.self.now c.policies.result.now c.policies.ensures.value

pub returns-clause-total : goal.returns-clause-total
returns-clause-total c = c.sum_of.ensures.value ∙ lane-sampled (λ (row : Shared). slice_index row.totals c.args.place) c.args.self.now c.policies.result.now c.policies.ensures.total

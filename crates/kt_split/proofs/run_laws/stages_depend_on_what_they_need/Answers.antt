use Rattle.kt_split.specs.RunRows.{averages_same, curves_same, distributions_same, events_same, ground_up_same, insured_same, item_summaries_same, net_same, output_summaries_same}
use Rattle.kt_split.proofs.run_laws.stages_depend_on_what_they_need.Goals as goal

pub returns-clause-events : goal.returns-clause-events
returns-clause-events c = events_same

pub returns-clause-distributions : goal.returns-clause-distributions
returns-clause-distributions c = distributions_same

pub returns-clause-ground_up : goal.returns-clause-ground_up
returns-clause-ground_up c = ground_up_same

pub returns-clause-insured : goal.returns-clause-insured
returns-clause-insured c = insured_same

pub returns-clause-net : goal.returns-clause-net
returns-clause-net c = net_same

pub returns-clause-item_summaries : goal.returns-clause-item_summaries
returns-clause-item_summaries c = item_summaries_same

pub returns-clause-output_summaries : goal.returns-clause-output_summaries
returns-clause-output_summaries c = output_summaries_same

pub returns-clause-averages : goal.returns-clause-averages
returns-clause-averages c = averages_same

pub returns-clause-curves : goal.returns-clause-curves
returns-clause-curves c = curves_same

use Rattle.kt_split.specs.RunDone.{ends_over}
use Rattle.kt_split.proofs.SplitLaws.{insured_joined, insured_summaries_joined, net_joined, net_summaries_joined}
use Rattle.kt_split.proofs.DoneStages.{insured_run, insured_summaries_run, net_run, net_summaries_run}
use Rattle.kt_split.proofs.laws.parts_of_losses_are_joined.Goals as goal

pub returns-clause-insured : goal.returns-clause-insured
returns-clause-insured c = λ words files terms rows insured ends fits. insured_joined terms rows files (c.loss_facts.ensures.facts files terms rows ends.are insured ends.loads) (insured_run files terms rows ends.are (ends_over words files terms rows ends) insured fits)

pub returns-clause-net : goal.returns-clause-net
returns-clause-net c = λ words files terms rows stages insured has few ends fits. net_joined terms rows files (c.loss_facts.ensures.facts files terms rows ends.are insured ends.loads) stages (net_run files terms rows ends.are (ends_over words files terms rows ends) has stages few fits)

pub returns-clause-insured_summaries : goal.returns-clause-insured_summaries
returns-clause-insured_summaries c = λ words files terms rows set insured some most ends fits. insured_summaries_joined terms rows files (c.loss_facts.ensures.facts files terms rows ends.are insured ends.loads) set some most (insured_summaries_run files terms rows ends.are (ends_over words files terms rows ends) set insured fits)

pub returns-clause-net_summaries : goal.returns-clause-net_summaries
returns-clause-net_summaries c = λ words files terms rows set insured some most has ends fits. net_summaries_joined terms rows files (c.loss_facts.ensures.facts files terms rows ends.are insured ends.loads) (ends.are.of_items has) set some most (net_summaries_run files terms rows ends.are (ends_over words files terms rows ends) has set fits)

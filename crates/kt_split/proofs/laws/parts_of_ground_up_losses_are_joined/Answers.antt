use Rattle.kt_split.specs.RunDone.{ends_over}
use Rattle.kt_split.proofs.SplitLaws.{distributions_joined, ground_up_joined, gul_summaries_joined}
use Rattle.kt_split.proofs.DoneStages.{distributions_run, ground_up_run, gul_summaries_run}
use Rattle.kt_split.proofs.laws.parts_of_ground_up_losses_are_joined.Goals as goal

pub returns-clause-distributions : goal.returns-clause-distributions
returns-clause-distributions c = λ words files terms rows ends fits. distributions_joined terms rows files (c.ground_up_facts.ensures.facts files terms rows ends.are ends.loads) (distributions_run files terms rows ends.are (ends_over words files terms rows ends) fits)

pub returns-clause-ground_up : goal.returns-clause-ground_up
returns-clause-ground_up c = λ words files terms rows ends fits. ground_up_joined terms rows files (c.ground_up_facts.ensures.facts files terms rows ends.are ends.loads) (ground_up_run files terms rows ends.are (ends_over words files terms rows ends) fits)

pub returns-clause-summaries : goal.returns-clause-summaries
returns-clause-summaries c = λ words files terms rows set some most ends fits. gul_summaries_joined terms rows files (c.ground_up_facts.ensures.facts files terms rows ends.are ends.loads) set some most (gul_summaries_run files terms rows ends.are (ends_over words files terms rows ends) set fits)

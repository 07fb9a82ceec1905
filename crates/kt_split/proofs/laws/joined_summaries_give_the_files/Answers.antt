use Rattle.kt_block.specs.Terms.{summary_set}
use Rattle.kt_rec.specs.declared.perspective.Perspective.TheVariants.{Il, Ri}
use Rattle.kt_split.specs.RunDone.{ends_over}
use Rattle.kt_split.proofs.DoneFiles.{joined_give_files}
use Rattle.kt_split.proofs.DoneStages.{insured_summaries_run, net_summaries_run}
use Rattle.kt_split.proofs.SplitLaws.{insured_tables_given, net_tables_given}
use Rattle.kt_split.proofs.laws.joined_summaries_give_the_files.Goals as goal

pub returns-clause-insured : goal.returns-clause-insured
returns-clause-insured c = λ words files terms rows set insured some most has ends fits.
    let done = ends_over words files terms rows ends in
    joined_give_files files terms rows ends.are done (summary_set Il set) (insured_tables_given terms rows files (c.loss_facts.ensures.facts files terms rows ends.are insured ends.loads) set some most has (insured_summaries_run files terms rows ends.are done set insured fits))

pub returns-clause-net : goal.returns-clause-net
returns-clause-net c = λ words files terms rows set insured some most net has ends fits.
    let done = ends_over words files terms rows ends in
    joined_give_files files terms rows ends.are done (summary_set Ri set) (net_tables_given terms rows files (c.loss_facts.ensures.facts files terms rows ends.are insured ends.loads) (ends.are.of_items net) set some most has (net_summaries_run files terms rows ends.are done net set fits))

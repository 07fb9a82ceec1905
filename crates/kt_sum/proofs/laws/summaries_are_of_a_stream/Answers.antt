use Rattle.kt_tables.specs.Lookups.{exposure_of, summary_in}
use Rattle.kt_sum.proofs.GoodLemmas.{summaries_good}
use Rattle.kt_sum.proofs.OneRunLemmas.{summaries_climb, summaries_of_event, summaries_of_same}
use Rattle.kt_sum.proofs.laws.summaries_are_of_a_stream.Goals as goal

pub returns-clause-good : goal.returns-clause-good
returns-clause-good c perspective set samples records within are =
    let rows = c.args.portfolio.now.rows in
    summaries_good (summary_in perspective rows set) (exposure_of perspective rows c.args.portfolio.now.need.rule set)
    (λ id summary is. let known = c.keeps_summaries.ensures.kept.known perspective set id summary is in (known.least, known.most))
    (c.keeps_summaries.ensures.kept.exposures perspective set) samples records within are

pub returns-clause-event : goal.returns-clause-event
returns-clause-event c perspective rule set records =
    let rows = c.args.portfolio.now.rows in
    summaries_of_event (summary_in perspective rows set) (exposure_of perspective rows rule set) records

pub returns-clause-same_event : goal.returns-clause-same_event
returns-clause-same_event c perspective rule set event records are =
    let rows = c.args.portfolio.now.rows in
    summaries_of_same (summary_in perspective rows set) (exposure_of perspective rows rule set) records event are

pub returns-clause-rising : goal.returns-clause-rising
returns-clause-rising c perspective rule set records =
    let rows = c.args.portfolio.now.rows in
    summaries_climb (summary_in perspective rows set) (exposure_of perspective rows rule set) records

use Rattle.kt_model.proofs.OneRunLemmas.{distributions_climb, distributions_good, distributions_of_event}
use Rattle.kt_model.proofs.laws.distributions_are_of_a_stream.Goals as goal

pub returns-clause-good : goal.returns-clause-good
returns-clause-good c event foot event_is none = distributions_good c.args.portfolio.now.rows event foot c.is_valid.ensures.valid.in_range.items c.keeps_damage.ensures.kept none event_is

pub returns-clause-event : goal.returns-clause-event
returns-clause-event c event foot = distributions_of_event c.args.portfolio.now.rows event foot

pub returns-clause-rising : goal.returns-clause-rising
returns-clause-rising c event foot = distributions_climb c.args.portfolio.now.rows event foot c.is_valid.ensures.valid.in_range.items

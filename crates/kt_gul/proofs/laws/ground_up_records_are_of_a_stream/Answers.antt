use Rattle.kt_gul.proofs.GoodLemmas.{records_good}
use Rattle.kt_gul.proofs.RunLemmas.{records_of_event, records_climb}
use Rattle.kt_gul.proofs.laws.ground_up_records_are_of_a_stream.Goals as goal

pub returns-clause-good : goal.returns-clause-good
returns-clause-good c samples event cut cdfs event_is are = records_good c.args.portfolio.now.rows samples cut event cdfs c.is_valid.ensures.valid.in_range are event_is

pub returns-clause-event : goal.returns-clause-event
returns-clause-event c samples event cut cdfs = records_of_event c.args.portfolio.now.rows samples cut event cdfs

pub returns-clause-rising : goal.returns-clause-rising
returns-clause-rising c samples event cut cdfs = records_climb c.args.portfolio.now.rows samples cut event cdfs c.keeps_keys.ensures.kept.items

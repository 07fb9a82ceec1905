use Rattle.kt_event.specs.Loading.{loads_bins, loads_random}
use Rattle.kt_event.proofs.event.event_losses.Goals as goal

pub distributions-requires : goal.distributions-requires
distributions-requires c = record { loaded = loads_bins c.args.plan.now.terms c.args.portfolio.now.need c.requires.plan.need c.requires.plan.terms }

pub distributions_are_of_a_stream-requires : goal.distributions_are_of_a_stream-requires
distributions_are_of_a_stream-requires c = record { loaded = loads_bins c.args.plan.now.terms c.args.portfolio.now.need c.requires.plan.need c.requires.plan.terms }

pub ground_up_lanes-requires-clause-random : goal.ground_up_lanes-requires-clause-random
ground_up_lanes-requires-clause-random c = loads_random c.args.plan.now.terms c.args.portfolio.now.need c.requires.plan.need c.requires.plan.terms

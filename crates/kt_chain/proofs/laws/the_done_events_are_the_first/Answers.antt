use Rattle.kt_chain.specs.RunLaws.{done_first, done_passed, next_event_refused}
use Rattle.kt_chain.proofs.laws.the_done_events_are_the_first.Goals as goal

pub returns : goal.returns
returns c = record { first = done_first; passed = done_passed; next = next_event_refused }

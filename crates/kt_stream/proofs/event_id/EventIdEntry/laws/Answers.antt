use Rattle.kt_stream.proofs.EventIds.{event_lawful}
use Rattle.kt_stream.proofs.event_id.EventIdEntry.laws.Goals as goal

pub returns : goal.returns
returns c = record { value = event_lawful }

use Rattle.kt_stream.proofs.LossRecords.{loss_lawful}
use Rattle.kt_stream.proofs.loss.LossRecordEntry.laws.Goals as goal

pub returns : goal.returns
returns c = record { value = loss_lawful }

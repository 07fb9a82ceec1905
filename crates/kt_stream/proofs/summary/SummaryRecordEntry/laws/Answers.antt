use Rattle.kt_stream.proofs.Summaries.{summary_lawful}
use Rattle.kt_stream.proofs.summary.SummaryRecordEntry.laws.Goals as goal

pub returns : goal.returns
returns c = record { value = summary_lawful }

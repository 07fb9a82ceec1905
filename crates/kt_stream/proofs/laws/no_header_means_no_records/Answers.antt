use Rattle.kt_stream.proofs.Headless.{stream_headless}
use Rattle.kt_stream.proofs.laws.no_header_means_no_records.Goals as goal

pub returns : goal.returns
returns g c = stream_headless g.E.Entry.form

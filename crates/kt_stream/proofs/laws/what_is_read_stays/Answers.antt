use Rattle.kt_stream.proofs.Growing.{stream_grows}
use Rattle.kt_stream.proofs.laws.what_is_read_stays.Goals as goal

pub returns : goal.returns
returns g c = λ shape bytes more. stream_grows g.E.Entry.form shape bytes more c.laws.ensures.value

use Rattle.kt_stream.proofs.Spelling.{faultless_written}
use Rattle.kt_stream.proofs.laws.what_is_read_is_spelled.Goals as goal

pub returns : goal.returns
returns g c = λ shape bytes. faultless_written g.E.Entry.form shape bytes c.laws.ensures.value

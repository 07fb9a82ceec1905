use Rattle.kt_stream.proofs.Spelling.{spelled_back}
use Rattle.kt_stream.proofs.laws.what_is_spelled_is_read.Goals as goal

pub returns : goal.returns
returns g c = λ shape bytes head entries. spelled_back g.E.Entry.form shape bytes head entries c.laws.ensures.value

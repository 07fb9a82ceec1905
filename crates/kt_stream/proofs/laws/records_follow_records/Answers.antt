use Rattle.kt_stream.proofs.Spelling.{spelled_both}
use Rattle.kt_stream.proofs.laws.records_follow_records.Goals as goal

pub returns : goal.returns
returns g c = λ shape bytes first_bytes last_bytes head first last. spelled_both g.E.Entry.form shape bytes first_bytes last_bytes head first last c.laws.ensures.value

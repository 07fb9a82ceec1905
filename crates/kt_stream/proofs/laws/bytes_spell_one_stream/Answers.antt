use Rattle.kt_stream.proofs.Spelling.{spelled_once}
use Rattle.kt_stream.proofs.laws.bytes_spell_one_stream.Goals as goal

pub returns : goal.returns
returns g c = λ shape bytes head other_head entries other_entries. spelled_once g.E.Entry.form shape bytes head other_head entries other_entries c.laws.ensures.value

use Rattle.kt_text.proofs.PlainRowLemmas.{comma-front}
use Rattle.kt_text.proofs.TrimmingLemmas.{behind_first}
use Rattle.kt_text.proofs.plain.behind_comma.Goals as goal

pub returns-clause-stands_front : goal.returns-clause-stands_front
returns-clause-stands_front c = λ more start fields ended.
    rw behind_first (comma-front start fields c.args.text.now more c.in-len1-up.len_at_least c.if-first-ne44.false ended)

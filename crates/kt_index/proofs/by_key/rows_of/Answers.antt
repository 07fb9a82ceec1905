use Rattle.std.proofs.Common.{◌∙◌}
use Rattle.kt_index.proofs.KeyLemmas.{one_key}
use Rattle.kt_index.proofs.by_key.rows_of.Goals as goal

pub returns : goal.returns
returns g c = record { value = c.rows_between.ensures.value ∙ one_key g.T.Keyed.key_of c.args.key c.args.rows.now }

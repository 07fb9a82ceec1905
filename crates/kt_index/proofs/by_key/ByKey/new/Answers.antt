use Rattle.std.proofs.Common.{◌∙◌, ap, nat_eq}
use Rattle.std.specs.List.{filter}
use Rattle.kt_index.proofs.by_key.ByKey.new.Goals as goal

pub returns-clause-kept : goal.returns-clause-kept
returns-clause-kept g c = λ key. c.in_ok-index.ensures.kept key ∙ ap (filter (λ row. nat_eq (g.T.Keyed.key_of row) key)) c.in_ok-rows.ensures.value

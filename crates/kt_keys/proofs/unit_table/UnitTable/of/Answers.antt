use Rattle.std.proofs.Common.{◌∙◌, ap, sym}
use Rattle.std.specs.HashMap.{get}
use Rattle.kt_keys.specs.Keys.{same_pair}
use Rattle.kt_keys.specs.UnitTable.{or_else, value_of}
use Rattle.kt_keys.proofs.unit_table.UnitTable.of.Goals as goal

pub returns-in-Some : goal.returns-in-Some
unfolding value_of
returns-in-Some g c = record { value = ap (λ entry. or_else entry (get same_pair c.args.self.now.rest (c.args.level, c.args.unit))) (sym c.in-Some.is ∙ c.entry.ensures.value) }

pub returns-in-None : goal.returns-in-None
unfolding value_of
returns-in-None g c = record { value = c.copied.ensures ∙ (c.get.ensures.value ∙ ap (λ entry. or_else entry (get same_pair c.args.self.now.rest (c.args.level, c.args.unit))) (sym c.in-None.is ∙ c.entry.ensures.value)) }

use Rattle.std.proofs.Common.{sym, ◌∙◌}
use Rattle.std.proofs.lemmas.List.{take_rest}
use Rattle.kt_cells.proofs.front_value.any_field.Goals as goal

pub returns-in-Ok-clause-field : goal.returns-in-Ok-clause-field
returns-in-Ok-clause-field c = record {
  size = c.field_length-size.result;
  within = c.field_length-size.ensures.within;
  field = c.field_length-size.ensures.field;
  good = sym c.value_of.ensures ∙ c.in-Ok.is;
  behind = rw take_rest at c.in_ok-rest.ensures.stands_front;
}

use Rattle.std.proofs.lemmas.List.{take_rest}
use Rattle.kt_cells.specs.Texts.{text_value}
use Rattle.kt_cells.proofs.front_value.plain_field.Goals as goal

pub returns-then-holds-clause-field : goal.returns-then-holds-clause-field
unfolding text_value
returns-then-holds-clause-field c = record {
  size = c.in_ok-number.number.size;
  within = c.in_ok-number.ensures.within;
  field = c.in_ok-number.ensures.field;
  good = rw c.in_ok-number.ensures.value (c.holds.ensures.held c.if-holds.true);
  behind = rw take_rest at c.in_ok-rest.ensures.stands_front;
}

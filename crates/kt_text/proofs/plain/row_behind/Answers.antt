use Rattle.std.proofs.Common.{◌∙◌, ap, arith}
use Rattle.std.proofs.lemmas.List.{nil_from_length}
use Rattle.std.specs.List.{list_all}
use Rattle.kt_text.specs.PlainText.{is_line_end}
use Rattle.kt_text.proofs.plain.row_behind.Goals as goal

pub returns-clause-none : goal.returns-clause-none
returns-clause-none c = c.loop-rest.invariant.2 ∙ ap (list_all is_line_end) (nil_from_length c.loop-rest.rest.now (omega (arith, c.in_default.len_below)))

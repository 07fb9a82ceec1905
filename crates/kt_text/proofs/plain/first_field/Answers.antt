use Rattle.std.proofs.Common.{[], sym, ◌∙◌, arith}
use Rattle.std.proofs.lemmas.List.{append-nil}
use Rattle.kt_text.proofs.PlainRowLemmas.{some-both, begins-front}
use Rattle.kt_text.proofs.TrimmingLemmas.{behind_first}
use Rattle.kt_text.proofs.plain.first_field.Goals as goal

pub returns-clause-begins : goal.returns-clause-begins
returns-clause-begins c =
    some-both c.row_behind.result c.row_behind.ensures.same c.row_behind.ensures.begins (λ rest same begins.
    rw (append-nil c.args.text.now, append-nil rest.now) at (begins-front c.args.text.now rest.now [] (omega arith) (sym c.is_line_end.ensures ∙ c.if-not-is_line_end.false) (rw behind_first at (same [])) begins))

pub returns-clause-begins_front : goal.returns-clause-begins_front
returns-clause-begins_front c =
    some-both c.row_behind.result c.row_behind.ensures.same c.row_behind.ensures.begins (λ rest same begins more.
    begins-front c.args.text.now rest.now more (omega arith) (sym c.is_line_end.ensures ∙ c.if-not-is_line_end.false) (rw behind_first at (same more)) begins)

use Rattle.std.proofs.Common.{sym, ◌∙◌, arith}
use Rattle.std.proofs.lemmas.List.{take_rest}
use Rattle.kt_text.proofs.PlainRowLemmas.{plain_headings, rows-front}
use Rattle.kt_text.proofs.plain.behind_heading.Goals as goal

pub returns-then-begins_line_end-clause-rows : goal.returns-then-begins_line_end-clause-rows
returns-then-begins_line_end-clause-rows c = grind (arith, plain_headings)

pub returns-then-begins_line_end-clause-rows_front : goal.returns-then-begins_line_end-clause-rows_front
returns-then-begins_line_end-clause-rows_front c = λ three more.
    rw take_rest (rows-front c.args.text.now c.without_mark-whole.result.now more c.heading_length-size.result c.without_mark-whole.ensures three c.if-size-gt0.true c.heading_length-size.ensures.within c.heading_length-size.ensures.plain (rw take_rest at (sym c.begins_line_end.ensures ∙ c.if-begins_line_end.true)))

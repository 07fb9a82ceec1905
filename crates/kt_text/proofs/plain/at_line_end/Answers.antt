use Rattle.std.proofs.Common.{sym, ◌∙◌}
use Rattle.kt_text.proofs.PlainRowLemmas.{row-behind, row-front}
use Rattle.kt_text.proofs.plain.at_line_end.Goals as goal

pub returns-then-begins_line_end-clause-stands : goal.returns-then-begins_line_end-clause-stands
returns-then-begins_line_end-clause-stands c = λ start fields ended. row-behind start fields c.args.text.now (sym c.begins_line_end.ensures ∙ c.if-begins_line_end.true) ended

pub returns-then-begins_line_end-clause-stands_front : goal.returns-then-begins_line_end-clause-stands_front
returns-then-begins_line_end-clause-stands_front c = λ more start fields ended. row-front start fields c.args.text.now more (sym c.begins_line_end.ensures ∙ c.if-begins_line_end.true) ended

-- The rows of a set.
use Rattle.kt_curve.proofs.Averages.{fresh_text}
use Rattle.kt_curve.proofs.SetTexts.{average_text}
use Rattle.kt_curve.proofs.average.set_text.Goals as goal

pub returns : goal.returns
returns c = λ history stands.
    let part = c.in_ok-part.part in
    fresh_text _ _ _ _ (rw c.summaries.ensures.value at c.in_ok-append_rows.ensures.ok) c.new-text.ensures.value
    (average_text c.args.cells.now c.args.perspective c.args.set part history c.in_ok-part.ensures stands)

-- The rows of a set.
use Rattle.kt_curve.proofs.Averages.{fresh_text}
use Rattle.kt_curve.proofs.SetTexts.{curve_text}
use Rattle.kt_curve.proofs.lec.curve_text.Goals as goal

pub returns : goal.returns
returns c = λ kept perspective set history own measure stands.
    fresh_text _ _ _ _ (rw (c.summaries.ensures.value, measure) at c.in_ok-append_groups.ensures.ok) c.new-text.ensures.value
    (curve_text kept perspective set c.args.part.now history own stands c.args.curve c.args.returns.now)

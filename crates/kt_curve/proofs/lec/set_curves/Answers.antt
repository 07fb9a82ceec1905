-- The rows of a set.
use Rattle.kt_period_cells.specs.Outcomes.{if_ok}
use Rattle.kt_curve.proofs.lec.set_curves.Goals as goal

pub returns : goal.returns
returns c =
    if_ok _ _ c.curve_text.result (λ text is history stands. is c.args.cells.now c.args.perspective c.args.set history c.in_ok-part.ensures c.takes_maxima-maxima.ensures.value stands)
    c.curve_text.ensures

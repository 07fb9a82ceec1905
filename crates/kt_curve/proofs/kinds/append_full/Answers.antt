-- The rows of both types of a full curve.
use Rattle.kt_period_cells.specs.Outcomes.{on_more}
use Rattle.kt_curve.proofs.Curves.{two_texts}
use Rattle.kt_curve.proofs.kinds.append_full.Goals as goal

pub returns : goal.returns
returns c = record {
  ok = on_more c.append_kind-2.result (λ rows. two_texts _ _ _ _ _ rows c.in_ok-append_kind.ensures.ok) c.append_kind-2.ensures.ok;
}

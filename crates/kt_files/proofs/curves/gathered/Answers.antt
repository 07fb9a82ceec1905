-- The curves of one hand more.
use Rattle.std.proofs.Common.{Some, sym, subst}
use Rattle.std.proofs.lemmas.List.Elements.{All-append, All-pop}
use Rattle.std.proofs.lemmas.Result.{IfOk-at_ok}
use Rattle.std.specs.Prelude.{All}
use Rattle.kt_curve.specs.SetsOfCurves.{AreSomeCurves}
use Rattle.kt_files.specs.Endings.{AreHandCurves}
use Rattle.kt_files.proofs.curves.gathered.Goals as goal

pub loop-hand-preserved : goal.loop-hand-preserved
loop-hand-preserved c = λ kept returns are.
    let now = c.loop-hand.invariant kept returns are in
    let popped = All-pop (AreHandCurves kept returns) _ _ (Some c.in-Some.hand) c.in-Some.ensures.items now.0 in
    let own = IfOk-at_ok (λ made. All (AreSomeCurves kept returns) made.items) c.in_ok-made.was popped.1 in
    (popped.0, subst (All (AreSomeCurves kept returns)) (sym c.in_ok-append.ensures.items) (All-append (AreSomeCurves kept returns) c.loop-hand.all.items _ now.1 own))

pub returns : goal.returns
returns c = λ kept returns are. (c.loop-hand.invariant kept returns are).1

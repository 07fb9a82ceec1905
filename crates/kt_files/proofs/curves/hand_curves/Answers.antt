-- One more is of the cells.
use Rattle.std.proofs.Common.{sym, subst}
use Rattle.std.proofs.lemmas.List.Elements.{All-push}
use Rattle.std.specs.Prelude.{All}
use Rattle.kt_curve.specs.SetsOfCurves.{AreSomeCurves}
use Rattle.kt_tables.specs.Lookups.{return_periods_of}
use Rattle.kt_files.proofs.curves.hand_curves.Goals as goal

pub loop-turn-preserved : goal.loop-turn-preserved
loop-turn-preserved c =
    let are = AreSomeCurves c.args.cells.now (return_periods_of c.args.portfolio.now.rows) in
    subst (All are) (sym c.in_ok-push.ensures.items) (All-push are c.loop-turn.made.items _ c.loop-turn.invariant c.in_ok-own.ensures)

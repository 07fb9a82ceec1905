-- Rows that were taken over stand for the losses of both.
use Rattle.std.proofs.Common.{refl}
use Rattle.kt_period_cells.proofs.Joined.{both_clear}
use Rattle.kt_period_cells.proofs.rows.Rows.take_over.Goals as goal

pub returns-clause-taken : goal.returns-clause-taken
returns-clause-taken c = λ yes before more stands further.
    let low = rw c.in_ok-append.ensures.ok at c.keeps_totals.ensures in
    rw c.in_ok-append.ensures.ok (both_clear c.args.self.now.rows c.args.other.rows before more (c.if-not-can_take.ensures.none refl) stands further low (c.if-not-can_take.ensures.cells refl))

-- One row more is not here.
use Rattle.std.proofs.Common.{sym, ◌∙◌}
use Rattle.kt_period_cells.specs.Rows.{row_keys}
use Rattle.kt_period_cells.proofs.Joined.{absent_more, nothing_found}
use Rattle.kt_period_cells.proofs.rows.Rows.has_none_of.Goals as goal

pub loop-row-preserved : goal.loop-row-preserved
loop-row-preserved c =
    absent_more c.args.rows.now (row_keys c.args.self.now.rows) c.loop-row.row-index c.row-item.result c.loop-row-test.true c.row-item.is
    (sym c.find.ensures.value ∙ nothing_found c.find.result (sym c.is_some.ensures ∙ c.if-is_some.false)) c.loop-row.invariant

use Rattle.std.proofs.Common.{◌∙◌, Option, Vec, Global, ap}
use Rattle.kt_keys.specs.UnitTable.{first_row, row_from}
use Rattle.kt_keys.proofs.UnitTableLemmas.{count-seen}
use Rattle.kt_keys.proofs.unit_table.rows_of.Goals as goal

pub loop-level-preserved : goal.loop-level-preserved
loop-level-preserved g c =
    count-seen (λ (row : Vec (Option g.row.V.Denot) Global). row.items) (row_from c.args.pairs.now c.args.widths.now) c.loop-level.level c.loop-level.rows.items _ c.in_ok-row_of.field-0 c.loop-level.invariant c.in_ok-push.ensures.items
    (c.in_ok-row_of.ensures.value ∙ ap (first_row c.args.pairs.now c.loop-level.level) c.width_at.ensures.value)

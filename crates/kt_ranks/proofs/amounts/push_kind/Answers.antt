-- The amounts of one row.
use Rattle.std.proofs.Common.{arith}
use Rattle.kt_cell.specs.Sets.{of_kind}
use Rattle.kt_period_cells.specs.Outcomes.{on_more}
use Rattle.kt_ranks.proofs.RowAmounts.{no_row, kind_pushed}
use Rattle.kt_ranks.proofs.amounts.push_kind.Goals as goal

pub returns-then-place-rows : goal.returns-then-place-rows
returns-then-place-rows c = record { ok = no_row c.args.maxima (of_kind c.args.mean) c.args.rows.now c.args.place.now.row c.args.found.now.items (omega (arith, c.if-place-rows.true)) }

pub returns : goal.returns
returns c = record { ok = on_more c.push_kind.result (λ more. kind_pushed c.args.maxima c.args.mean c.args.rows.now c.args.place.now.row c.index-rows-place.result c.args.found.now.items _ (omega (arith, c.if-place-rows.false)) c.index-rows-place.is more) c.push_kind.ensures.ok }

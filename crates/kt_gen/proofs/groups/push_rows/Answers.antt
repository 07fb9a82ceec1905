use Rattle.std.proofs.Common.{◌++◌, ◌∙◌, ap}
use Rattle.kt_cells.specs.Records.{record_bytes}
use Rattle.kt_gen.proofs.GroupLemmas.{row-more, rows-end}
use Rattle.kt_gen.proofs.groups.push_rows.Goals as goal

pub loop-row-preserved : goal.loop-row-preserved
loop-row-preserved g c =
    row-more c.args.kinds.now c.args.out.now c.loop-row.out c.push_record.new.out c.args.rows.now c.loop-row.row-index c.row-item.result c.loop-row-test.true
    (c.in_ok-push_record.ensures.ok ∙ ap (λ row. c.loop-row.out ++ record_bytes c.args.kinds.now row) c.row-item.is) c.loop-row.invariant

pub returns : goal.returns
returns g c = rows-end c.args.kinds.now c.args.out.now c.loop-row.out c.args.rows.now c.loop-row.row-index c.loop-row-test.false c.loop-row.invariant

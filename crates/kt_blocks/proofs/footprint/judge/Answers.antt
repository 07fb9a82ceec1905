use Rattle.std.proofs.Common.{sym}
use Rattle.kt_blocks.proofs.EventLines.{footprint-judged}
use Rattle.kt_cells.specs.Records.{record_width}
use Rattle.kt_blocks.proofs.footprint.judge.Goals as goal

pub returns-in-Ok-clause-ok : goal.returns-in-Ok-clause-ok
unfolding record_width
returns-in-Ok-clause-ok c =
    let handed = c.in-Ok.ensures.value in
    footprint-judged c.args.bytes.now c.body.result.now c.in_ok-_extra._extra handed.rows (sym c.in_ok-_extra.ensures.exact) c.body.ensures handed.are_read (c.in-Ok.ensures.ranges handed.rows handed.are_read) (c.in-Ok.ensures.count handed.rows handed.are_read)

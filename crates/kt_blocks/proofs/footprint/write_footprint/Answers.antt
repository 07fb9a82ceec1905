use Rattle.kt_blocks.proofs.EventLines.{events-ready, footprint-text}
use Rattle.kt_blocks.proofs.footprint.write_footprint.Goals as goal

pub write_pieces-requires : goal.write_pieces-requires
write_pieces-requires g c = events-ready c.args.bytes.now c.body.result.now c.args.index.now c.in_default.ensures.ok c.body.ensures c.requires

pub returns-in-Ok-write_pieces : goal.returns-in-Ok-write_pieces
returns-in-Ok-write_pieces g c =
    let made = footprint-text c.args.bytes.now c.body.result.now c.args.index.now c.in_default.ensures.ok c.body.ensures c.in-Ok.start c.in-Ok.ensures.value in
    (_, made, c.in-Ok-write_pieces.ensures)

pub returns-in-Err-write_pieces : goal.returns-in-Err-write_pieces
returns-in-Err-write_pieces g c =
    let made = footprint-text c.args.bytes.now c.body.result.now c.args.index.now c.in_default.ensures.ok c.body.ensures c.in-Ok.start c.in-Ok.ensures.value in
    (_, made, c.in-Err-write_pieces.ensures)

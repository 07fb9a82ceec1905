use Rattle.std.proofs.Common.{refl}
use Rattle.kt_blocks.proofs.TextLemmas.{tells_text, text_is}
use Rattle.kt_blocks.proofs.tables.write_lines.Goals as goal

pub returns-in-Err : goal.returns-in-Err
returns-in-Err g c =
    (tells_text c.args.table _ _ _ _ _ c.args.bytes.now c.requires.kinds c.requires.rows c.in-Err.stop c.in-Err.ensures.refused, refl)

pub write_pieces-requires : goal.write_pieces-requires
write_pieces-requires g c =
    let judged = c.in_default.ensures.ok in
    record {
      few = c.requires.size;
      some = c.requires.some;
      columns_are = c.requires.columns;
      wide = c.requires.wide;
      is_width = c.requires.width;
      rows = judged.rows;
      are_read = rw c.body.ensures judged.are_rows;
      counted = rw (c.body.ensures, c.requires.width) judged.counted;
    }

pub returns-in-Ok-write_pieces : goal.returns-in-Ok-write_pieces
returns-in-Ok-write_pieces g c =
    let made = text_is c.args.table _ _ _ _ _ c.args.bytes.now c.requires.kinds c.requires.rows c.body.result.now c.in-Ok.start (rw c.body.ensures c.in_default.ensures.ok) c.in-Ok.ensures.value in
    (_, made, c.in-Ok-write_pieces.ensures)

pub returns-in-Err-write_pieces : goal.returns-in-Err-write_pieces
returns-in-Err-write_pieces g c =
    let made = text_is c.args.table _ _ _ _ _ c.args.bytes.now c.requires.kinds c.requires.rows c.body.result.now c.in-Ok.start (rw c.body.ensures c.in_default.ensures.ok) c.in-Ok.ensures.value in
    (_, made, c.in-Err-write_pieces.ensures)

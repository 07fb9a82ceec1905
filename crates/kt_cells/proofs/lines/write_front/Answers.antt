use Rattle.std.proofs.Common.{arith}
use Rattle.kt_cells.proofs.WritingLemmas.{piece_put}
use Rattle.kt_cells.proofs.lines.write_front.Goals as goal

pub returns-clause-written : goal.returns-clause-written
returns-clause-written c = piece_put c.args.end c.args.front.now.size c.args.text.now c.args.front.now.text c.copy_from_slice.new.self c.requires.room (omega (arith, c.requires.within, c.told-text)) c.requires.short c.copy_from_slice.ensures.len c.copy_from_slice.ensures.after

use Rattle.std.proofs.Common.{arith}
use Rattle.kt_loop.proofs.FileReading.{piece_read}
use Rattle.kt_loop.proofs.file.read_piece.Goals as goal

pub returns-clause-moved : goal.returns-clause-moved
returns-clause-moved g c = piece_read c.args.name.now c.args.block.now c.read_at.new.buf c.args.size c.args.at c.min-room.result (g.I.Inputs.state c.args.inputs.now).held c.read_at.result c.requires.sized c.requires.within (omega (arith, c.min-room.ensures)) c.read_at.ensures.moved

use Rattle.std.proofs.Common.{arith}
use Rattle.kt_blocks.proofs.LineLemmas.{piece-made}
use Rattle.kt_blocks.proofs.tables.LinesPieces.push.Goals as goal

pub push_record_lines-requires : goal.push_record_lines-requires
push_record_lines-requires g c = (omega (arith, c.requires.ready.few), (c.requires.ready.few, (c.requires.ready.some, omega arith)))

pub returns-in-Ok-clause-ok : goal.returns-in-Ok-clause-ok
returns-in-Ok-clause-ok g c =
    piece-made _ c.args.self.now.kinds.now c.args.self.now.width c.args.self.now.records.now c.requires.ready c.slices_give_slices.ensures c.args.index _ c.slice-part.result.now c.args.out.now c.push_record_lines.new.out
    (omega (arith, c.requires.within)) c.lines_of-count.ensures c.slice-part.ensures c.in-Ok.ensures.ok

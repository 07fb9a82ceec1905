use Rattle.std.proofs.Common.{length, drop, arith}
use Rattle.kt_front.proofs.Reading.{part_behind}
use Rattle.kt_front.proofs.text_source.read_behind_kept.Goals as goal

pub returns-in-Ok-clause-part : goal.returns-in-Ok-clause-part
returns-in-Ok-clause-part g c =
    part_behind c.args.kept.now c.copy_from_slice.new.self (drop (length c.args.kept.now) c.args.block.now) _ _ c.read.new.buf c.in-Ok.read c.copy_from_slice.ensures.after c.in-Ok.ensures.moved (omega (arith, c.in-Ok.ensures.within, c.read.auto.buf))

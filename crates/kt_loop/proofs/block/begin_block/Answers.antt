use Rattle.std.proofs.Common.{◌∙◌, ap, length, take}
use Rattle.kt_loop.specs.Blocks.{filled_block}
use Rattle.kt_loop.proofs.block.begin_block.Goals as goal

pub returns-clause-front : goal.returns-clause-front
returns-clause-front c =
    ap (take (length c.args.bytes.now)) (filled_block c.if-len-size.block.items c.put_front.new.block c.if-len-size.block.len c.if-len-size.block.ok.0 (c.put_front.auto.block ∙ ap length c.as_mut_slice.ensures.value)) ∙ c.put_front.ensures

use Rattle.std.proofs.Common.{◌+◌, List, sym, subst}
use Rattle.kt_fold.specs.ReadyParts.{IsReadyBlock}
use Rattle.kt_fold.proofs.ReadyLemmas.{MadeUpto, made_all, one_made}
use Rattle.kt_fold.proofs.ready.ready_blocks.Goals as goal

pub loop-block-preserved : goal.loop-block-preserved
loop-block-preserved c =
    subst (λ (made : List _). MadeUpto IsReadyBlock made c.args.blocks.now (c.loop-block.block-index + 1)) (sym c.in_ok-push.ensures)
    (one_made IsReadyBlock c.args.blocks.now c.loop-block.block-index c.block-item.result c.loop-block-test.true c.block-item.is c.loop-block.ready c.in_ok-own.own c.in_ok-own.ensures c.loop-block.invariant)

pub returns : goal.returns
returns c = made_all IsReadyBlock c.loop-block.ready c.args.blocks.now c.loop-block.block-index c.loop-block.invariant

-- The rows of the blocks so far are made.
use Rattle.kt_fold.specs.ReadyParts.{IsReadyBlock}
use Rattle.kt_fold.proofs.ReadyLemmas.{MadeUpto}
use Rattle.kt_fold.proofs.ready.ready_blocks.Given as goal

abbrev pub invariant-loop-block : goal.invariant-loop-block
invariant-loop-block l = MadeUpto IsReadyBlock l.ready l.blocks l.block-index

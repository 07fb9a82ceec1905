use Rattle.std.proofs.Common.{◌++◌}
use Rattle.kt_blocks.specs.Progress.{IsMidway}
use Rattle.kt_blocks.proofs.pieces.write_pieces.Given as goal

-- the pieces so far are written or pending
abbrev pub invariant-loop-index : goal.invariant-loop-index
invariant-loop-index g l = IsMidway (g.K.Sink.state l.fn.sink) (g.K.Sink.state l.sink) (l.fn.start ++ g.P.Pieces.rest l.pieces 0) l.out (g.P.Pieces.rest l.pieces l.index)

use Rattle.std.proofs.Common.{◌≡◌, ◌≤◌, ◌-◌, length}
use Rattle.kt_loop.specs.InputFile.{file_bytes}
use Rattle.kt_kat.proofs.Copying.{HasCopied}
use Rattle.kt_kat.proofs.plain.PlainBytesFileStep.step.Given as goal

-- the bytes up to here are written, and nothing was counted
abbrev pub invariant-pieces : goal.invariant-pieces
invariant-pieces g l = record {
  inputs : g.I.Inputs.state l.inputs ≡ g.I.Inputs.state l.fn.inputs;
  faults : (g.K.Sink.state l.sink).faults ≡ (g.K.Sink.state l.fn.sink).faults;
  room : length l.block.items ≡ 65536;
  within : l.at ≤ l.fn.size;
  copied : HasCopied (file_bytes (g.I.Inputs.state l.fn.inputs).held l.fn.name) l.at (g.K.Sink.state l.fn.sink).taken (g.K.Sink.state l.sink).taken;
}

abbrev pub decreases-pieces : goal.decreases-pieces
decreases-pieces g l = l.size - l.at

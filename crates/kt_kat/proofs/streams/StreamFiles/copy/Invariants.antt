use Rattle.std.proofs.Common.{◌≡◌, ◌≤◌, ◌-◌, take}
use Rattle.std.specs.Prelude.{IfSome}
use Rattle.kt_stream.specs.Reader.{IsRested}
use Rattle.kt_loop.specs.InputFile.{file_bytes}
use Rattle.kt_kat.specs.Copied.{IsCopied}
use Rattle.kt_kat.proofs.streams.StreamFiles.copy.Given as goal

-- the records of the bytes up to here are written, and nothing was counted
abbrev pub invariant-pieces : goal.invariant-pieces
invariant-pieces g l = record {
  inputs : g.I.Inputs.state l.inputs ≡ g.I.Inputs.state l.fn.inputs;
  faults : (g.K.Sink.state l.sink).faults ≡ (g.K.Sink.state l.fn.sink).faults;
  within : l.at ≤ l.fn.size;
  rests : IsRested _ g.M.Record.Entry.form l.reader;
  copied : IfSome (file_bytes (g.I.Inputs.state l.fn.inputs).held l.fn.name) (λ bytes. IsCopied g.M.Record.Entry.form g.M.JoinedKind.shape l.fn.self.first (take l.at bytes) l.reader (g.K.Sink.state l.fn.sink).taken (g.K.Sink.state l.sink).taken);
}

abbrev pub decreases-pieces : goal.decreases-pieces
decreases-pieces g l = l.size - l.at

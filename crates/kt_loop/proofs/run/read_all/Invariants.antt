use Rattle.std.proofs.Common.{◌≡◌}
use Rattle.kt_out.specs.InputFiles.{InputsState}
use Rattle.kt_loop.proofs.Going.{Going}
use Rattle.kt_stream.specs.Reader.{IsRested}
use Rattle.kt_loop.proofs.run.read_all.Given as goal

-- what was read so far, where the calculation came by it, and that nothing was counted
abbrev pub invariant-turns : goal.invariant-turns
invariant-turns g l = record {
  going : Going g.T.Stage.calculation g.E.Entry.form (g.T.Stage.shape l.fn.stage) (λ state. g.T.Stage.is_at state l.fn.stage l.fn.beside) (λ state. g.T.Stage.is_at state l.stage l.beside) (g.S.Source.state l.fn.source).left (g.S.Source.state l.source).left (g.K.Sink.state l.fn.sink).taken (g.K.Sink.state l.sink).taken l.reader l.out l.counter;
  rests : IsRested g.row.E.Denot g.E.Entry.form l.reader;
  ready : g.T.Stage.is_ready l.reader.head l.stage l.beside;
  shape : g.T.Stage.shape l.stage ≡ g.T.Stage.shape l.fn.stage;
  inputs : (others : InputsState) → g.T.Stage.inputs others l.beside ≡ g.T.Stage.inputs others l.fn.beside;
  reads : (g.S.Source.state l.source).faults ≡ (g.S.Source.state l.fn.source).faults;
  faults : (g.K.Sink.state l.sink).faults ≡ (g.K.Sink.state l.fn.sink).faults;
}

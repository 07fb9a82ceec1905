use Rattle.std.proofs.Common.{◌≡◌, ◌+◌, drop}
use Rattle.std.specs.Prelude.{IfSome}
use Rattle.kt_kat.specs.Found.{AreFound}
use Rattle.kt_kat.proofs.OneByOne.{AreJoined}
use Rattle.kt_kat.proofs.each_file.each_file.Given as goal

-- so many files are done, the others were found, and nothing was counted
abbrev pub invariant-files : goal.invariant-files
invariant-files g l = record {
  inputs : g.I.Inputs.state l.inputs ≡ g.I.Inputs.state l.fn.inputs;
  faults : (g.K.Sink.state l.sink).faults ≡ (g.K.Sink.state l.fn.sink).faults;
  found : IfSome (g.I.Inputs.state l.fn.inputs).held (λ files. AreFound (drop (l.n + 1) l.fn.words) files (drop l.n l.fn.sizes));
  joined : (start : g.F.FileStep.State) → g.F.FileStep.is_at start l.fn.step → AreJoined g.F.FileStep.made g.F.FileStep.next (λ state. g.F.FileStep.is_at state l.step) (g.I.Inputs.state l.fn.inputs).held start (drop 1 l.fn.words) (drop (l.n + 1) l.fn.words) (l.n + 1) (g.K.Sink.state l.fn.sink).taken (g.K.Sink.state l.sink).taken;
}

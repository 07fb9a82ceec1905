-- The events that were carried through so far are done, and the others are left.
use Rattle.std.proofs.Common.{◌≡◌, [], All, length}
use Rattle.kt_stream.specs.Pairs.{IsId}
use Rattle.kt_tables.specs.Lookups.{event_ids}
use Rattle.kt_chain.specs.Events.{RunInput}
use Rattle.kt_chain.specs.Rounds.{FitsRun}
use Rattle.kt_chain.specs.Runs.{IsFolded, IsRunOf}
use Rattle.kt_chain.proofs.StepLemmas.{Going}
use Rattle.kt_chain.proofs.rounds.all_rounds.Given as goal

abbrev pub invariant-loop-rest : goal.invariant-loop-rest
invariant-loop-rest g l = record {
  ids : All IsId l.rest;
  inputs : g.I.Inputs.state l.inputs ≡ g.I.Inputs.state l.fn.inputs;
  faults : (g.O.Outputs.state l.outputs).faults ≡ (g.O.Outputs.state l.fn.outputs).faults;
  fits : FitsRun l.run.terms.samples l.fold.inner;
  going : (input : RunInput) → IsRunOf (g.I.Inputs.state l.fn.inputs).held l.run.terms l.run.portfolio.rows input → IsFolded input [] l.fn.fold.inner → Going input (event_ids l.run.portfolio.rows) l.rest l.fold.inner (g.O.Outputs.state l.fn.outputs) (g.O.Outputs.state l.outputs);
}

abbrev pub decreases-loop-rest : goal.decreases-loop-rest
decreases-loop-rest g l = length l.rest

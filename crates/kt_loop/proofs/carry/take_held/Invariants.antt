use Rattle.std.proofs.Common.{◌≡◌, ℕ, List, Option, Some, length}
use Rattle.kt_out.specs.InputFiles.{InputsState}
use Rattle.kt_stream.specs.Reader.{held}
use Rattle.kt_ends.specs.declared.status.Refusal.{Refusal}
use Rattle.kt_loop.specs.Calculation.{Course, took_all}
use Rattle.kt_loop.specs.Steps.{Stands}
use Rattle.kt_loop.proofs.RecordReading.{HasPassed}
use Rattle.kt_loop.proofs.Taking.{IsCarried}
use Rattle.kt_loop.proofs.carry.take_held.Given as goal

-- what was taken so far, and where the calculation came by it
abbrev pub invariant-records : goal.invariant-records
invariant-records g l = record {
  read : HasPassed g.E.Entry.form l.fn.reader l.reader;
  ready : g.T.Stage.is_ready (Some l.head) l.stage l.beside;
  shape : g.T.Stage.shape l.stage ≡ g.T.Stage.shape l.fn.stage;
  course : (before : Option (List ℕ)) (course : Course g.T.Stage.State Refusal) → Stands (λ state. g.T.Stage.is_at state l.fn.stage l.fn.beside) before (g.K.Sink.state l.fn.sink).taken l.fn.out course
      → IsCarried g.T.Stage.calculation l.head (λ state. g.T.Stage.is_at state l.stage l.beside) before (g.K.Sink.state l.sink).taken l.out (took_all g.T.Stage.calculation l.head course (held g.E.Entry.form l.fn.reader)) (held g.E.Entry.form l.reader);
  inputs : (beside : InputsState) → g.T.Stage.inputs beside l.beside ≡ g.T.Stage.inputs beside l.fn.beside;
  faults : (g.K.Sink.state l.sink).faults ≡ (g.K.Sink.state l.fn.sink).faults;
}

abbrev pub decreases-records : goal.decreases-records
decreases-records g l = length (held g.E.Entry.form l.reader)

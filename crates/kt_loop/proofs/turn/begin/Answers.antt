use Rattle.std.proofs.Common.{subst, Option, Err, []}
use Rattle.kt_stream.specs.declared.stop.StreamStop.{StreamStop}
use Rattle.kt_ends.specs.declared.status.Refusal.{Refusal}
use Rattle.kt_loop.specs.Calculation.{Course}
use Rattle.kt_loop.specs.Reading.{StandsFor}
use Rattle.kt_loop.specs.RecordStreams.{contents_of}
use Rattle.kt_loop.specs.Steps.{Stands, Comes}
use Rattle.kt_loop.proofs.Growing.{begun}
use Rattle.kt_loop.proofs.RecordReading.{behind_all, head_is, records_are}
use Rattle.kt_loop.proofs.turn.begin.Goals as goal

pub returns-in-Ok-clause-stands : goal.returns-in-Ok-clause-stands
returns-in-Ok-clause-stands g c =
    let reader = c.args.reader.now in
    behind_all g.E.Entry.form (g.T.Stage.shape c.args.stage.now) [] [] reader (record { told = c.requires.told; represents = c.requires.fresh }) c.in-Ok.field-0 c.carry_on.new.reader c.in-Ok.ensures.read

pub returns-in-Ok-clause-course : goal.returns-in-Ok-clause-course
returns-in-Ok-clause-course g c before start standing =
    let reader = c.args.reader.now in
    let shape = g.T.Stage.shape c.args.stage.now in
    let fresh : StandsFor g.row.E.Denot g.E.Entry.form shape [] [] reader = record { told = c.requires.told; represents = c.requires.fresh } in
    subst (λ (course : Course g.T.Stage.State Refusal). Stands (λ state. g.T.Stage.is_at state c.carry_on.new.stage c.carry_on.new.beside) before (g.K.Sink.state c.carry_on.new.sink).taken c.carry_on.new.out course)
    (begun g.T.Stage.calculation start (contents_of g.E.Entry.form shape []) _ _ (head_is g.E.Entry.form shape [] [] reader fresh) (records_are g.E.Entry.form shape [] [] reader fresh)) (c.in-Ok.ensures.course before _ standing)

pub returns-in-Err-clause-course : goal.returns-in-Err-clause-course
returns-in-Err-clause-course g c before start standing =
    let reader = c.args.reader.now in
    let shape = g.T.Stage.shape c.args.stage.now in
    let fresh : StandsFor g.row.E.Denot g.E.Entry.form shape [] [] reader = record { told = c.requires.told; represents = c.requires.fresh } in
    subst (λ (course : Course g.T.Stage.State Refusal). Comes {T = Option StreamStop} (λ state. g.T.Stage.is_at state c.carry_on.new.stage c.carry_on.new.beside) before (g.K.Sink.state c.carry_on.new.sink).taken c.carry_on.new.out course (Err c.in-Err.why))
    (begun g.T.Stage.calculation start (contents_of g.E.Entry.form shape []) _ _ (head_is g.E.Entry.form shape [] [] reader fresh) (records_are g.E.Entry.form shape [] [] reader fresh)) (c.in-Err.ensures.course before _ standing)

pub returns-in-Ok-clause-counted : goal.returns-in-Ok-clause-counted
returns-in-Ok-clause-counted g c others = c.in-Ok.ensures.counted others

pub returns-in-Err-clause-counted : goal.returns-in-Err-clause-counted
returns-in-Err-clause-counted g c others = c.in-Err.ensures.counted others

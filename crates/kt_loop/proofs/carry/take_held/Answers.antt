use Rattle.std.proofs.Common.{◌∙◌, subst, sym, Err}
use Rattle.kt_stream.specs.Header.{IsHead}
use Rattle.kt_stream.specs.declared.entry.Placed.{Placed}
use Rattle.kt_stream.specs.declared.kind.Shape.{Shape}
use Rattle.kt_loop.specs.Calculation.{took}
use Rattle.kt_loop.specs.Steps.{Stands, Comes}
use Rattle.kt_loop.proofs.RecordReading.{passed_one, passed_rest, passed_stop, placed_on}
use Rattle.kt_loop.proofs.Stepping.{counts_behind, no_inputs}
use Rattle.kt_loop.proofs.Taking.{carried_more, carried_until, carried_all, carried_front}
use Rattle.kt_loop.proofs.carry.take_held.Goals as goal

pub returns-in-Err-clause-course : goal.returns-in-Err-clause-course
returns-in-Err-clause-course g c before course standing =
    carried_front g.T.Stage.calculation c.args.head (λ state. g.T.Stage.is_at state c.records.stage c.records.beside) before _ c.records.out _ _ (c.records.invariant.course before course standing)

-- ---- a record

pub take_one-requires-clause-header : goal.take_one-requires-clause-header
take_one-requires-clause-header g c = subst (λ (shape : Shape). IsHead shape.kind c.args.head) (sym c.records.invariant.shape) c.requires.header

pub take_one-requires-clause-good : goal.take_one-requires-clause-good
take_one-requires-clause-good g c =
    let had = c.records.invariant in
    placed_on g.E.Entry.form g.E.Entry.IsGood _ c.args.head c.records.reader c.advance.new.self _ (rw c.in-Record.is at c.in-Ok.ensures.value) (had.read.shape ∙ c.requires.told ∙ sym had.shape) (had.read.head ∙ c.requires.known) c.record.ensures.value

pub returns-in-Err-take_one-clause-course : goal.returns-in-Err-take_one-clause-course
returns-in-Err-take_one-clause-course g c before course standing =
    let reads = rw c.in-Record.is at c.in-Ok.ensures.value in
    let going = c.records.invariant.course before course standing in
    carried_until g.T.Stage.calculation c.args.head _ (λ state. g.T.Stage.is_at state c.take_one.new.stage c.take_one.new.beside) before _ _ _ c.take_one.new.out _ _ _ _ going reads.first (Unit {0}) c.in-Err-take_one.stop
    (subst (λ (placed : Placed g.row.E.Denot). Comes {T = Unit {0}} (λ state. g.T.Stage.is_at state c.take_one.new.stage c.take_one.new.beside) before (g.K.Sink.state c.take_one.new.sink).taken c.take_one.new.out (took g.T.Stage.calculation c.args.head going.course placed) (Err c.in-Err-take_one.stop)) c.record.ensures.value
    (c.in-Err-take_one.ensures.course before going.course going.standing))

pub returns-in-Err-take_one-clause-counted : goal.returns-in-Err-take_one-clause-counted
returns-in-Err-take_one-clause-counted g c others =
    counts_behind (Unit {0}) _ _ _ _ _ _ (Err c.in-Err-take_one.stop) (c.records.invariant.inputs others) c.records.invariant.faults (c.in-Err-take_one.ensures.counted others)

pub records-preserved : goal.records-preserved
records-preserved g c =
    let reads = rw c.in-Record.is at c.in-Ok.ensures.value in
    record {
      read = passed_one g.E.Entry.form c.args.reader.now c.records.reader c.advance.new.self c.records.invariant.read reads;
      ready = c.in_default.ensures.ready;
      shape = c.take_one.ensures.shape ∙ c.records.invariant.shape;
      course = λ before course standing.
          let going = c.records.invariant.course before course standing in
          carried_more g.T.Stage.calculation c.args.head _ (λ state. g.T.Stage.is_at state c.take_one.new.stage c.take_one.new.beside) before _ _ _ c.take_one.new.out _ _ _ _ going reads.first
          (subst (λ (placed : Placed g.row.E.Denot). Stands (λ state. g.T.Stage.is_at state c.take_one.new.stage c.take_one.new.beside) before (g.K.Sink.state c.take_one.new.sink).taken c.take_one.new.out (took g.T.Stage.calculation c.args.head going.course placed)) c.record.ensures.value
          (c.in_default.ensures.course before going.course going.standing));
      inputs = λ others. ◌∙◌ {a = g.T.Stage.inputs others c.take_one.new.beside} (c.in_default.ensures.counted others).0 (c.records.invariant.inputs others);
      faults = ◌∙◌ {a = (g.K.Sink.state c.take_one.new.sink).faults} (c.in_default.ensures.counted no_inputs).1 c.records.invariant.faults;
    }

-- ---- no record is left

pub returns-in-Rest-clause-course : goal.returns-in-Rest-clause-course
returns-in-Rest-clause-course g c before course standing =
    let reads = rw c.in-Rest.is at c.in-Ok.ensures.value in
    carried_all g.T.Stage.calculation c.args.head (λ state. g.T.Stage.is_at state c.records.stage c.records.beside) before _ c.records.out _ _ (c.records.invariant.course before course standing) reads.none

pub returns-in-Stop-clause-course : goal.returns-in-Stop-clause-course
returns-in-Stop-clause-course g c before course standing =
    let reads = rw c.in-Stop.is at c.in-Ok.ensures.value in
    carried_all g.T.Stage.calculation c.args.head (λ state. g.T.Stage.is_at state c.records.stage c.records.beside) before _ c.records.out _ _ (c.records.invariant.course before course standing) reads.none

pub returns-in-Rest-clause-read : goal.returns-in-Rest-clause-read
returns-in-Rest-clause-read g c = passed_rest g.E.Entry.form c.args.reader.now c.records.reader c.advance.new.self c.records.invariant.read (rw c.in-Rest.is at c.in-Ok.ensures.value)

pub returns-in-Stop-clause-read : goal.returns-in-Stop-clause-read
returns-in-Stop-clause-read g c = passed_stop g.E.Entry.form c.args.reader.now c.records.reader c.advance.new.self c.records.invariant.read c.in-Stop.stop (rw c.in-Stop.is at c.in-Ok.ensures.value)

use Rattle.kt_loop.proofs.RecordReading.{passed_one, passed_rest, passed_stop}
use Rattle.kt_loop.proofs.record_reader.read_records.Goals as goal

pub records-preserved : goal.records-preserved
records-preserved g c = passed_one g.E.Entry.form c.args.reader.now c.records.reader c.advance.new.self c.records.invariant (rw c.in-Record.is at c.in_ok-advance.ensures.value)

pub returns-in-Rest : goal.returns-in-Rest
returns-in-Rest g c = passed_rest g.E.Entry.form c.args.reader.now c.records.reader c.advance.new.self c.records.invariant (rw c.in-Rest.is at c.in_ok-advance.ensures.value)

pub returns-in-Stop : goal.returns-in-Stop
returns-in-Stop g c = passed_stop g.E.Entry.form c.args.reader.now c.records.reader c.advance.new.self c.records.invariant c.in-Stop.stop (rw c.in-Stop.is at c.in_ok-advance.ensures.value)

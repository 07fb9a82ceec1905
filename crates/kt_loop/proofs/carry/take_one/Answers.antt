use Rattle.std.proofs.Common.{Ok, Err}
use Rattle.kt_loop.proofs.Stepping.{came_on, spilled, counts_call, counts_write}
use Rattle.kt_loop.proofs.carry.take_one.Goals as goal

pub returns-in-Err-clause-course : goal.returns-in-Err-clause-course
returns-in-Err-clause-course g c before course standing =
    came_on (Unit {0}) (λ state. g.T.Stage.is_at state c.take.new.self c.take.new.beside) before _ g.T.Stage.calculation c.args.head _ c.args.out.now c.take.new.out course (Err c.in-Err.stop) standing c.args.placed.now c.in-Err.ensures.step

pub returns-in-Err-clause-counted : goal.returns-in-Err-clause-counted
returns-in-Err-clause-counted g c beside = counts_call (Unit {0}) _ _ _ (Err c.in-Err.stop) (c.in-Err.ensures.counted beside)

pub returns-then-len-lt-SPILL-clause-course : goal.returns-then-len-lt-SPILL-clause-course
returns-then-len-lt-SPILL-clause-course g c before course standing =
    came_on (Unit {0}) (λ state. g.T.Stage.is_at state c.take.new.self c.take.new.beside) before _ g.T.Stage.calculation c.args.head _ c.args.out.now c.take.new.out course (Ok c.in_default.field-0) standing c.args.placed.now c.in_default.ensures.step

pub returns-clause-course : goal.returns-clause-course
returns-clause-course g c before course standing =
    let stands = came_on (Unit {0}) (λ state. g.T.Stage.is_at state c.take.new.self c.take.new.beside) before _ g.T.Stage.calculation c.args.head _ c.args.out.now c.take.new.out course (Ok c.in_default.field-0) standing c.args.placed.now c.in_default.ensures.step in
    spilled (Unit {0}) _ before _ _ c.take.new.out c.spill.new.out _ _ _ c.spill.result stands c.spill.ensures.written c.spill.ensures.counted

pub returns-clause-counted : goal.returns-clause-counted
returns-clause-counted g c beside = counts_write (Unit {0}) _ _ _ _ c.spill.result (c.in_default.ensures.counted beside) c.spill.ensures.counted

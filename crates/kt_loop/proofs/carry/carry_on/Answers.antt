use Rattle.std.proofs.Common.{Option}
use Rattle.kt_stream.specs.declared.stop.StreamStop.{StreamStop}
use Rattle.kt_loop.proofs.Stepping.{counts_behind}
use Rattle.kt_loop.proofs.Taking.{come_new, refused_new}
use Rattle.kt_loop.proofs.carry.carry_on.Goals as goal

pub returns-in-Err-open_stage-clause-course : goal.returns-in-Err-open_stage-clause-course
returns-in-Err-open_stage-clause-course g c before course standing =
    refused_new g.T.Stage.calculation c.in-Some.head c.args.was_open _ course _ c.in-Some.ensures.value c.if-was_open.false (Unit {0}) (λ state. g.T.Stage.is_at state c.open_stage.new.stage c.open_stage.new.beside) before _ c.open_stage.new.out c.in-Err-open_stage.stop
    (c.in-Err-open_stage.ensures.course before course standing)

pub returns-in-Err-open_stage-clause-counted : goal.returns-in-Err-open_stage-clause-counted
returns-in-Err-open_stage-clause-counted g c others = c.in-Err-open_stage.ensures.counted others

pub returns-clause-course : goal.returns-clause-course
returns-clause-course g c before course standing =
    come_new g.T.Stage.calculation c.in-Some.head c.args.was_open _ course _ c.in-Some.ensures.value c.if-was_open.false (Option StreamStop) (λ state. g.T.Stage.is_at state c.take_held-2.new.stage c.take_held-2.new.beside) before _ c.take_held-2.new.out c.take_held-2.result
    (c.take_held-2.ensures.course before _ (c.in_default-open_stage.ensures.course before course standing))

pub returns-clause-counted : goal.returns-clause-counted
returns-clause-counted g c others =
    counts_behind (Option StreamStop) _ _ _ _ _ _ c.take_held-2.result (c.in_default-open_stage.ensures.counted others).0 (c.in_default-open_stage.ensures.counted others).1 (c.take_held-2.ensures.counted others)

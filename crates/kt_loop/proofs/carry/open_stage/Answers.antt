use Rattle.kt_loop.proofs.Stepping.{came_open, counts_call}
use Rattle.kt_loop.proofs.carry.open_stage.Goals as goal

pub returns-clause-course : goal.returns-clause-course
returns-clause-course g c before course standing = came_open _ _ before _ g.T.Stage.calculation c.args.head _ c.args.out.now c.open.new.out course c.open.result standing c.open.ensures.step

pub returns-clause-counted : goal.returns-clause-counted
returns-clause-counted g c beside = counts_call _ _ _ _ c.open.result (c.open.ensures.counted beside)

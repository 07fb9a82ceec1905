use Rattle.std.proofs.Common.{Err, ap}
use Rattle.kt_out.specs.InputFiles.{InputsState}
use Rattle.kt_ends.specs.Hiding.{none_failed}
use Rattle.kt_loop.specs.Outcome.{outcome}
use Rattle.kt_loop.specs.RecordStreams.{contents_of}
use Rattle.kt_ends.specs.Stops.{end_status, stop_status}
use Rattle.kt_loop.proofs.Ending.{ends_run, map_some, done_end, counted_done, files_kept, stop_at_end, done_at_end, hidden_stop}
use Rattle.kt_loop.proofs.run.run_stage.Goals as goal

pub returns-in-Ok : goal.returns-in-Ok
returns-in-Ok g c = record {
  ended = λ asks made others outputs.
      ends_run g.T.Stage.calculation (contents_of g.E.Entry.form (g.T.Stage.shape c.args.stage.now)) (λ state. g.T.Stage.is_at state c.args.stage.now c.args.beside.now) asks made _ _ outputs _ _ _ _ (end_status c.spill.result)
      (λ start at. map_some (g.S.Source.state c.args.source.now).left _ _ (λ bytes settles. done_end (outcome g.T.Stage.calculation start (contents_of g.E.Entry.form (g.T.Stage.shape c.args.stage.now) bytes)) _ _ _ c.read_all.new.out c.spill.new.out _ _ c.spill.result settles c.spill.ensures.written c.spill.ensures.emptied c.spill.ensures.counted) (c.in-Ok.ensures.settled start at))
      (counted_done _ _ outputs _ _ _ (g.K.Sink.state c.read_all.new.sink) _ c.spill.result (c.in-Ok.ensures.counted others) c.spill.ensures.counted) (done_at_end _ _ c.spill.result c.in-Ok.ensures.at_end)
      (λ start at. none_failed (λ bytes. outcome g.T.Stage.calculation start (contents_of g.E.Entry.form (g.T.Stage.shape c.args.stage.now) bytes)) _ _ (end_status c.spill.result) (c.in-Ok.ensures.counted others).1)
      (ap (λ (state : InputsState). state.held) (c.in-Ok.ensures.counted others).0);
}

pub returns : goal.returns
returns g c = record {
  ended = λ asks made others outputs.
      ends_run g.T.Stage.calculation (contents_of g.E.Entry.form (g.T.Stage.shape c.args.stage.now)) (λ state. g.T.Stage.is_at state c.args.stage.now c.args.beside.now) asks made _ _ outputs _ _ _ _ (stop_status c.settle.result)
      (λ start at. map_some (g.S.Source.state c.args.source.now).left _ _ (λ bytes settles. c.settle.ensures.end (outcome g.T.Stage.calculation start (contents_of g.E.Entry.form (g.T.Stage.shape c.args.stage.now) bytes)) _ settles) (c.in-Err.ensures.settled start at))
      (c.settle.ensures.counted _ _ outputs _ _ _ (c.in-Err.ensures.counted others)) (stop_at_end _ _ c.settle.result)
      (λ start at. hidden_stop (λ bytes. outcome g.T.Stage.calculation start (contents_of g.E.Entry.form (g.T.Stage.shape c.args.stage.now) bytes)) _ _ _ _ _ _ c.in-Err.stop c.settle.result (c.in-Err.ensures.counted others) c.settle.ensures.unread (c.in-Err.ensures.hides_none start at))
      (files_kept (Unit {0}) _ _ _ _ _ _ (Err c.in-Err.stop) (c.in-Err.ensures.counted others));
}

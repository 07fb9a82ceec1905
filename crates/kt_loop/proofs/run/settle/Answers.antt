use Rattle.std.proofs.Common.{subst}
use Rattle.kt_loop.specs.Counts.{StopCounts}
use Rattle.kt_loop.specs.Settling.{StopSettles}
use Rattle.kt_loop.proofs.Ending.{unwritten_end, refused_end, stopped_end, counted_writing, counted_refused, counted_stopped, refused_none}
use Rattle.kt_ends.specs.declared.status.Status.TheVariants as status
use Rattle.kt_ends.specs.declared.tool_stop.ToolStop.{ToolStop}
use Rattle.kt_loop.proofs.run.settle.Goals as goal

pub returns-in-Ok-clause-end : goal.returns-in-Ok-clause-end
returns-in-Ok-clause-end g c made before settles =
    refused_end made before _ _ c.args.out.now _ c.in-Refused.refusal (subst (λ (why : ToolStop). StopSettles made before (g.K.Sink.state c.args.sink.now).taken c.args.out.now why) c.in-Refused.is settles) c.in-Ok.ensures.written c.in-Ok.ensures.emptied

pub returns-in-Ok-clause-counted : goal.returns-in-Ok-clause-counted
returns-in-Ok-clause-counted g c inputs inputs_now outputs source source_now first counts =
    counted_refused inputs inputs_now outputs source source_now first (g.K.Sink.state c.args.sink.now) _ (Unit {0}) c.in-Refused.refusal
    (subst (λ (why : ToolStop). StopCounts inputs inputs_now source.faults source_now.faults first.faults (g.K.Sink.state c.args.sink.now).faults why) c.in-Refused.is counts) c.in-Ok.ensures.counted

pub returns-in-Err-clause-end : goal.returns-in-Err-clause-end
returns-in-Err-clause-end g c made before settles =
    unwritten_end made before _ _ c.args.out.now c.spill.new.out (Unit {0}) _ _ (status.Refused c.in-Refused.refusal) c.in-Err.why
    (subst (λ (why : ToolStop). StopSettles made before (g.K.Sink.state c.args.sink.now).taken c.args.out.now why) c.in-Refused.is settles) c.in-Err.ensures.written c.in-Err.ensures.counted

pub returns-in-Err-clause-counted : goal.returns-in-Err-clause-counted
returns-in-Err-clause-counted g c inputs inputs_now outputs source source_now first counts =
    counted_writing inputs inputs_now outputs source source_now first (g.K.Sink.state c.args.sink.now) _ (Unit {0}) c.in-Err.why
    (refused_none inputs inputs_now outputs source source_now first (g.K.Sink.state c.args.sink.now) (g.K.Sink.state c.args.sink.now) (Unit {0}) c.in-Refused.refusal
    (subst (λ (why : ToolStop). StopCounts inputs inputs_now source.faults source_now.faults first.faults (g.K.Sink.state c.args.sink.now).faults why) c.in-Refused.is counts)) c.in-Err.ensures.counted

pub returns-in_default-clause-end : goal.returns-in_default-clause-end
returns-in_default-clause-end g c made before settles = stopped_end (Unit {0}) made before _ c.args.out.now c.args.stop c.in_default.not-Refused settles

pub returns-in_default-clause-counted : goal.returns-in_default-clause-counted
returns-in_default-clause-counted g c inputs inputs_now outputs source source_now first counts =
    counted_stopped inputs inputs_now outputs source source_now first (g.K.Sink.state c.args.sink.now) _ (Unit {0}) c.args.stop c.in_default.not-Refused counts

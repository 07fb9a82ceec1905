use Rattle.std.proofs.Common.{ℕ, List, Err, subst}
use Rattle.kt_out.specs.Writing.{WritesAll, WritesBytes}
use Rattle.kt_blocks.proofs.Midway.{midway_written, midway_stopped}
use Rattle.kt_blocks.proofs.spill.spill.Goals as goal

pub returns-in-Ok : goal.returns-in-Ok
returns-in-Ok g c = λ before whole rest mid.
    rw c.truncate.ensures.value
    (midway_written before _ whole c.args.out.now rest mid (g.K.Sink.state c.write_all.new.sink)
    (subst (λ (piece : List ℕ). WritesBytes (g.K.Sink.state c.args.sink.now) (g.K.Sink.state c.write_all.new.sink) piece) c.as_slice.ensures.value c.in-Ok.ensures.moved))

pub returns-in-Err : goal.returns-in-Err
returns-in-Err g c = λ before whole rest mid.
    midway_stopped before _ whole c.args.out.now rest mid (Unit {0}) (g.K.Sink.state c.write_all.new.sink) c.in-Err.fault
    (subst (λ (piece : List ℕ). WritesAll {T = Unit {0}} (g.K.Sink.state c.args.sink.now) (g.K.Sink.state c.write_all.new.sink) piece (Err c.in-Err.fault)) c.as_slice.ensures.value c.in-Err.ensures.moved)

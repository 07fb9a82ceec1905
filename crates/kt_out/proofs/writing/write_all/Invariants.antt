-- Each turn writes on from the bytes that are done.
use Rattle.std.proofs.Common.{length, ◌-◌, ◌≡◌, ◌≤◌, take}
use Rattle.kt_out.specs.Writing.{Gains}
use Rattle.kt_out.proofs.writing.write_all.Given as goal

abbrev pub invariant-loop-done : goal.invariant-loop-done
invariant-loop-done g l = record {
  within : l.done ≤ length l.piece;
  gained : Gains (g.K.Sink.state l.initial.sink).taken (g.K.Sink.state l.sink).taken (take l.done l.piece);
  counted : (g.K.Sink.state l.sink).faults ≡ (g.K.Sink.state l.initial.sink).faults;
  untouched : l.done ≡ 0 → l.sink ≡ l.initial.sink;
}

abbrev pub decreases-loop-done : goal.decreases-loop-done
decreases-loop-done g l = length l.piece - l.done

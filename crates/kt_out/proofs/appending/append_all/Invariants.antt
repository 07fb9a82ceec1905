-- Each turn appends on from the bytes that are done.
use Rattle.std.proofs.Common.{length, ◌-◌, ◌≡◌, ◌≤◌, take}
use Rattle.kt_out.specs.Appending.{AppendsText}
use Rattle.kt_out.proofs.appending.append_all.Given as goal

abbrev pub invariant-loop-done : goal.invariant-loop-done
invariant-loop-done g l = record {
  within : l.done ≤ length l.bytes;
  added : AppendsText (g.O.Outputs.state l.initial.outputs).written (g.O.Outputs.state l.outputs).written l.name (take l.done l.bytes);
  counted : (g.O.Outputs.state l.outputs).faults ≡ (g.O.Outputs.state l.initial.outputs).faults;
  untouched : l.done ≡ 0 → l.outputs ≡ l.initial.outputs;
}

abbrev pub decreases-loop-done : goal.decreases-loop-done
decreases-loop-done g l = length l.bytes - l.done

use Rattle.std.proofs.Common.{◌≡◌, ◌+◌, ◌≤◌, ◌<◌, ◌++◌, List, ℕ, length}
use Rattle.kt_front.specs.SourceText.{HasFed}
use Rattle.kt_front.proofs.whole_source.read_on.Given as goal

abbrev pub invariant-turns : goal.invariant-turns
invariant-turns g l = record {
  more : List ℕ;
  appended : l.bytes.items ≡ l.fn.bytes.items ++ more;
  fed : HasFed (g.S.Source.state l.fn.source) (g.S.Source.state l.source) more;
  few : length more + l.left ≡ l.most;
  turned : l.counter ≤ length more;
  room : 0 < length l.block;
}

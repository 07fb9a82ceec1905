use Rattle.std.proofs.Common.{◌≡◌, ◌-◌, ◌*◌, ◌≤◌, vec_len, vec_capacity}
use Rattle.kt_stream.proofs.BinsRead.{BinsGo}
use Rattle.kt_stream.proofs.bins.read_bins.Given as goal

-- the bins so far are in front of those that are left, and there is room for these
abbrev pub invariant-loop-i : goal.invariant-loop-i
invariant-loop-i l = record {
  go : BinsGo l.count l.bytes l.at l.bins.items l.before l.used (l.count - l.i);
  size : l.used ≡ 12 * l.i;
  some : vec_len l.bins ≡ l.i;
  room : l.count ≤ vec_capacity l.bins;
}

-- The losses of the first samples are there.
use Rattle.std.proofs.Common.{◌≡◌, ◌-◌, ◌++◌}
use Rattle.std.specs.List.{flat_map, range_with_len}
use Rattle.kt_curve.proofs.SampleLists.{own_losses}
use Rattle.kt_curve.proofs.sample_losses.append_samples.Given as goal

abbrev pub invariant-loop-sample : goal.invariant-loop-sample
invariant-loop-sample l = record {
  same : l.samples ≡ l.group;
  losses : l.losses.items ≡ l.fn.losses.items ++ flat_map (own_losses l.ranks l.group) (range_with_len 1 (l.sample - 1));
}

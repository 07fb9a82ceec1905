use Rattle.std.proofs.Common.{◌≡◌, nat_eq, drop, true}
use Rattle.std.specs.List.{list_any}
use Rattle.kt_fmtree.proofs.policy.place_of.Given as goal

abbrev pub invariant-loop-place : goal.invariant-loop-place
invariant-loop-place l = list_any (nat_eq l.layer) (drop l.place l.layers) ≡ true

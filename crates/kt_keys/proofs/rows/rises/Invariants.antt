use Rattle.std.proofs.Common.{◌≡◌, ◌+◌, All, take, drop, true}
use Rattle.std.specs.List.{list_any}
use Rattle.std.specs.Ordering.{is_le}
use Rattle.kt_keys.specs.FirstRow.{repeated_at, first_refused_after}
use Rattle.kt_keys.proofs.rows.rises.Given as goal

abbrev pub invariant-loop-key : goal.invariant-loop-key
invariant-loop-key g l = record {
  highest : All (λ x. is_le (g.K.Ord.cmp x l.last) ≡ true) (take (l.key-index + 1) l.keys);
  first : first_refused_after (λ earlier key. list_any (g.K.PartialEq.eq key) earlier) (take (l.key-index + 1) l.keys) (drop (l.key-index + 1) l.keys) ≡ repeated_at g.K.PartialEq.eq l.keys;
}

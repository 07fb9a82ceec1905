use Rattle.std.proofs.Common.{◌≡◌, take, drop}
use Rattle.std.specs.List.{list_any}
use Rattle.std.specs.HashSet.{contains}
use Rattle.kt_keys.specs.FirstRow.{repeated_at, first_refused_after}
use Rattle.kt_keys.proofs.rows.first_repeated.Given as goal

abbrev pub invariant-loop-index : goal.invariant-loop-index
invariant-loop-index g l = record {
  members : (key : _) → contains g.K.PartialEq.eq l.seen key ≡ list_any (g.K.PartialEq.eq key) (take l.index l.keys);
  first : first_refused_after (λ earlier key. list_any (g.K.PartialEq.eq key) earlier) (take l.index l.keys) (drop l.index l.keys) ≡ repeated_at g.K.PartialEq.eq l.keys;
}

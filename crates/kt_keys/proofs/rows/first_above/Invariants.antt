use Rattle.std.proofs.Common.{◌≡◌, ◌≤◌, ◌++◌, ◌∷◌, [], take, drop}
use Rattle.std.specs.Prelude.{nat_lt, unwrap_or}
use Rattle.std.specs.HashMap.{get}
use Rattle.kt_keys.specs.FirstRow.{above_at, total_of, first_refused_after}
use Rattle.kt_keys.proofs.rows.first_above.Given as goal

abbrev pub invariant-loop-index : goal.invariant-loop-index
invariant-loop-index g l = record {
  totals : (key : _) → unwrap_or (get g.K.PartialEq.eq l.totals key) 0 ≡ total_of g.K.PartialEq.eq (take l.index l.parts) key;
  within : (key : _) → total_of g.K.PartialEq.eq (take l.index l.parts) key ≤ l.most;
  first : first_refused_after (λ earlier part. nat_lt l.most (total_of g.K.PartialEq.eq (earlier ++ part ∷ []) part.0)) (take l.index l.parts) (drop l.index l.parts) ≡ above_at g.K.PartialEq.eq l.most l.parts;
}

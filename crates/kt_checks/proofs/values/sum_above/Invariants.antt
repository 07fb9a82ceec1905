use Rattle.std.proofs.Common.{◌≡◌, ◌≤◌, ◌++◌, ◌∷◌, [], take, drop, unwrap_or}
use Rattle.std.specs.Prelude.{nat_lt}
use Rattle.std.specs.List.{sum_by}
use Rattle.kt_keys.specs.FirstRow.{first_refused_after}
use Rattle.kt_keys.specs.UnitTable.{value_of}
use Rattle.kt_checks.specs.TableChecks.{sum_above_at}
use Rattle.kt_checks.proofs.values.sum_above.Given as goal

abbrev pub invariant-loop-index : goal.invariant-loop-index
invariant-loop-index l = record {
  total : l.sum ≡ sum_by (λ row. unwrap_or (value_of l.values (0, row.coverage_id)) 0) (take l.index l.items);
  within : l.sum ≤ l.most;
  first : first_refused_after (λ earlier row. nat_lt 100000000000000 (sum_by (λ x. unwrap_or (value_of l.values (0, x.coverage_id)) 0) (earlier ++ row ∷ []))) (take l.index l.items) (drop l.index l.items) ≡ sum_above_at (λ row. unwrap_or (value_of l.values (0, row.coverage_id)) 0) l.items;
}

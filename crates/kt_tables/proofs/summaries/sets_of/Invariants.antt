use Rattle.std.proofs.Common.{◌≡◌, ℕ, map, nat_eq, take}
use Rattle.std.specs.HashSet.{contains}
use Rattle.std.specs.List.{list_any}
use Rattle.kt_tables.proofs.summaries.sets_of.Given as goal

abbrev pub invariant-loop-place : goal.invariant-loop-place
invariant-loop-place l = (set : ℕ) → contains nat_eq l.sets set ≡ list_any (nat_eq set) (map (λ row. row.set) (take l.place l.rows))

use Rattle.std.proofs.Common.{◌≡◌, ℕ, nat_eq, take}
use Rattle.std.specs.List.{list_any}
use Rattle.kt_exposure.specs.Exposure.{summary_covers}
use Rattle.kt_exposure.proofs.exposure.list_coverages.Given as goal

abbrev pub invariant-loop-row : goal.invariant-loop-row
invariant-loop-row l = (coverage : ℕ) → list_any (nat_eq coverage) l.found.items ≡ summary_covers (take l.row-index l.rows) l.pairs (l.set, l.summary) coverage

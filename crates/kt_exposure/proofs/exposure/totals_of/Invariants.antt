use Rattle.std.proofs.Common.{ℕ, take}
use Rattle.std.specs.Map.{lookup}
use Rattle.kt_keys.specs.Keys.{same_pair}
use Rattle.kt_exposure.specs.Exposure.{value_in}
use Rattle.kt_exposure.proofs.TotalLemmas.{KnownTotal}
use Rattle.kt_exposure.proofs.exposure.totals_of.Given as goal

abbrev pub invariant-loop-place : goal.invariant-loop-place
invariant-loop-place l = (key : ℕ × ℕ) → KnownTotal l.all l.pairs (value_in l.tivs) (take l.place l.all) key (lookup (same_pair key) l.totals.items)

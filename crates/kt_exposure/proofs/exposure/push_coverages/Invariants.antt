use Rattle.std.proofs.Common.{◌≡◌, ◌||◌, ℕ, nat_eq, take}
use Rattle.std.specs.List.{list_any}
use Rattle.kt_exposure.proofs.exposure.push_coverages.Given as goal

abbrev pub invariant-loop-pair : goal.invariant-loop-pair
invariant-loop-pair l = (coverage : ℕ) → list_any (nat_eq coverage) l.found.items ≡ (list_any (nat_eq coverage) l.initial.found.items || list_any (λ pair. nat_eq pair.coverage coverage) (take l.pair-index l.pairs))

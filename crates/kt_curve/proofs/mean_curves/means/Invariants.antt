-- The means of the first sums.
use Rattle.std.proofs.Common.{◌≡◌, map, take}
use Rattle.kt_money.specs.Rounding.{half_up}
use Rattle.kt_curve.proofs.mean_curves.means.Given as goal

abbrev pub invariant-loop-total : goal.invariant-loop-total
invariant-loop-total l = l.found.items ≡ map (λ total. half_up total l.samples) (take l.total-index l.sums)

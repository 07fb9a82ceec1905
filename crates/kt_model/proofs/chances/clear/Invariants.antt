use Rattle.std.proofs.Common.{◌≡◌, take}
use Rattle.std.specs.List.{sum}
use Rattle.kt_model.proofs.chances.clear.Given as goal

abbrev pub invariant-loop-chance : goal.invariant-loop-chance
invariant-loop-chance l = sum (take l.chance-index l.chances) ≡ 0

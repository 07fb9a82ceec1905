use Rattle.std.proofs.Common.{◌≡◌, take}
use Rattle.kt_checks.proofs.OutputLemmas.{greatest}
use Rattle.kt_checks.proofs.outputs.last_layer.Given as goal

abbrev pub invariant-loop-pair : goal.invariant-loop-pair
invariant-loop-pair l = l.last ≡ greatest 1 (take l.pair-index l.layers)

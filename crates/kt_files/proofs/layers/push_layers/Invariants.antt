-- The rows of the layers so far are appended.
use Rattle.std.proofs.Common.{◌≡◌, ◌++◌, take}
use Rattle.std.specs.List.{flat_map}
use Rattle.kt_files.specs.Parts.{layer_row}
use Rattle.kt_files.proofs.layers.push_layers.Given as goal

abbrev pub invariant-loop-sum : goal.invariant-loop-sum
invariant-loop-sum l = l.out ≡ l.initial.out ++ flat_map layer_row (take l.sum-index l.layers)

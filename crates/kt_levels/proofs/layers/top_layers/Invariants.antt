use Rattle.std.proofs.Common.{◌≡◌, ◌++◌, drop}
use Rattle.kt_levels.specs.Layers.{layers_from}
use Rattle.kt_levels.proofs.layers.top_layers.Given as goal

abbrev pub invariant-loop-place : goal.invariant-loop-place
invariant-loop-place l = l.found.items ++ layers_from l.programme.layers l.place (drop l.place l.tops) ≡ layers_from l.programme.layers 0 l.tops

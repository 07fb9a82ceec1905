use Rattle.std.proofs.Common.{◌≡◌, ◌++◌, map, take}
use Rattle.kt_levels.proofs.LayerLemmas.{layer_at}
use Rattle.kt_levels.proofs.layers.push_layers.Given as goal

abbrev pub invariant-loop-layer : goal.invariant-loop-layer
invariant-loop-layer l = l.found.items ≡ l.fn.found.items ++ map (layer_at l.node l.top) (take l.layer-index l.layers)

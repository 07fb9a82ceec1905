use Rattle.std.proofs.Common.{◌≡◌, [], slice_index_or, take}
use Rattle.std.specs.List.{flat_map}
use Rattle.kt_ri.proofs.places.owners_of.Given as goal

abbrev pub invariant-loop-one : goal.invariant-loop-one
invariant-loop-one l = l.owners.items ≡ flat_map (λ one. slice_index_or l.programme.beneath one.node []) (take l.one-index l.layers)

use Rattle.std.proofs.Common.{◌≡◌, take}
use Rattle.std.specs.List.{flat_map}
use Rattle.kt_levels.specs.Down.{child_places}
use Rattle.kt_levels.proofs.down.place_children.Given as goal

abbrev pub invariant-loop-part : goal.invariant-loop-part
invariant-loop-part l = l.places.items ≡ flat_map (child_places l.nodes) (take l.part-index l.parts)

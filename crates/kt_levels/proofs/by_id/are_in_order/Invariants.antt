use Rattle.std.proofs.Common.{◌≡◌, map, slice_index, take}
use Rattle.kt_fmtree.specs.Parts.{units_at}
use Rattle.kt_levels.proofs.by_id.are_in_order.Given as goal

abbrev pub invariant-loop-at : goal.invariant-loop-at
invariant-loop-at l = map (slice_index (units_at l.programme 0)) (take l.at l.places) ≡ take l.at l.ids

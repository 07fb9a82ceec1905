use Rattle.std.proofs.Common.{length, map, take}
use Rattle.kt_fmtree.specs.Sharing.{part_of}
use Rattle.kt_fmtree.specs.Parts.{units_at}
use Rattle.kt_fmtree.specs.Placed.{unit_parts}
use Rattle.kt_lanes.specs.Lanes.{AreLanes}
use Rattle.kt_levels.specs.Down.{placed_at}
use Rattle.kt_levels.proofs.by_id.added_by_id.Given as goal

abbrev pub invariant-loop-near : goal.invariant-loop-near
invariant-loop-near l = AreLanes l.width (length l.ids) (λ k. map (part_of (unit_parts (units_at l.programme 0) (take l.near (placed_at k l.parts)))) l.ids) l.found

use Rattle.std.proofs.Common.{◌≡◌, map, take}
use Rattle.kt_fmtree.specs.Sharing.{part_of}
use Rattle.kt_fmtree.specs.Parts.{units_at}
use Rattle.kt_fmtree.specs.Placed.{unit_parts}
use Rattle.kt_fmtree.proofs.by_id.parts_by_id.Given as goal

abbrev pub invariant-loop-near : goal.invariant-loop-near
invariant-loop-near l = l.amounts.items ≡ map (part_of (unit_parts (units_at l.programme 0) (take l.near l.parts))) l.ids

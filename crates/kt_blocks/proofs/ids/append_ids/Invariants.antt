use Rattle.std.proofs.Common.{◌≡◌, ◌++◌, take}
use Rattle.byteorder.specs.Endian.{little_bytes}
use Rattle.std.specs.List.{flat_map}
use Rattle.kt_blocks.proofs.ids.append_ids.Given as goal

-- the bytes of the ids so far
abbrev pub invariant-loop-id : goal.invariant-loop-id
invariant-loop-id l = l.out ≡ l.fn.out ++ flat_map (little_bytes 4) (take l.id-index l.ids)

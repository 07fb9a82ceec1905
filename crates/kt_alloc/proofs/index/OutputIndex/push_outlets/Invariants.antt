use Rattle.std.proofs.Common.{◌≡◌, ◌++◌, take}
use Rattle.std.specs.List.{filter_map}
use Rattle.kt_alloc.specs.Index.{outlet_in}
use Rattle.kt_alloc.proofs.index.OutputIndex.push_outlets.Given as goal

abbrev pub invariant-loop-row : goal.invariant-loop-row
invariant-loop-row l = l.outlets.items ≡ l.fn.outlets.items ++ filter_map (outlet_in l.key.1 l.place) (take l.row-index l.rows)

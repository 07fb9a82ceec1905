-- The rows of the ids so far.
use Rattle.std.proofs.Common.{◌≡◌, take}
use Rattle.std.specs.List.{filter_map}
use Rattle.kt_alloc.specs.Index.{first_of}
use Rattle.kt_alloc.proofs.index.rows_in_order.Given as goal

abbrev pub invariant-loop-id : goal.invariant-loop-id
invariant-loop-id l = l.found.items ≡ filter_map (first_of l.rows) (take l.id-index l.ids)

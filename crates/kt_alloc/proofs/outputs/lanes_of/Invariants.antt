-- The losses of the outputs so far are kept.
use Rattle.std.proofs.Common.{◌≡◌, take}
use Rattle.std.specs.List.{filter_map}
use Rattle.kt_alloc.specs.Table.{record_in}
use Rattle.kt_alloc.proofs.outputs.lanes_of.Given as goal

abbrev pub invariant-loop-outlet : goal.invariant-loop-outlet
invariant-loop-outlet l = record {
  table : l.made.table ≡ l.fn.table;
  records : l.made.records ≡ filter_map (record_in l.event l.fn.table) (take l.outlet-index l.outlets);
}
